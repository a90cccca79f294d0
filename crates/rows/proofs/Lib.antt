mod FoldLaws
