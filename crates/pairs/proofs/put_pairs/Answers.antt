-- `pairs::put_pairs` meets its contract: in a turn what is left begins with the next pair.
use Rattle.std.proofs.Common.{ℕ, ◌+◌, ◌*◌, ◌/◌, ◌<◌, ◌≤◌, ◌≡◌, List, [], ◌∷◌, arith, length, get_or, drop}
use Rattle.ground.specs.WritingLaws.{Left, left_all}
use Rattle.items.specs.Items.{words_of}
use Rattle.items.specs.declared.Item.{Item}
use Rattle.items.specs.ItemsLaws.{loop_room, loop_less, loop_none, loop_last}
use Rattle.pairs.specs.Pairs.{pair_items}
use Rattle.pairs.specs.PairsLaws.{pair, pairs_two, pairs_one, pairs_none}
use Rattle.pairs.proofs.put_pairs.Goals as goal
use Rattle.pairs.proofs.put_pairs.Goals.{In-loop-pair, After-loop-pair, In-Some}

pub loop-pair-init : goal.loop-pair-init
loop-pair-init c = left_all _ _ _

-- the next pair, and what is left behind it
first : List (List ℕ) → ℕ → Item
first chunks i = pair 0 (get_or (get_or chunks i []) 0 0) (get_or (get_or chunks i []) 1 0)

rest : List ℕ → ℕ → List Item
rest w i = pair_items (drop ((i + 1) * 2) w)

due : (c : In-loop-pair) → Left c.args.words.now c.args.at (words_of (pair_items c.args.samples.now)) c.loop-pair.words c.loop-pair.next (words_of (first c.as_chunks.result.0.now c.loop-pair.pair-index ∷ rest c.args.samples.now c.loop-pair.pair-index))
unfolding first rest
due c =
    let i : c.loop-pair.pair-index < length c.args.samples.now / 2 = omega (arith, c.loop-pair-test.true, c.as_chunks.ensures.front_len) in
    rw (pairs_two c.args.samples.now c.as_chunks.result.0.now c.loop-pair.pair-index c.as_chunks.ensures.front i) at c.loop-pair.invariant

pub put_word-next-requires : goal.put_word-next-requires
put_word-next-requires c =
    let w = c.args.samples.now in
    let i = c.loop-pair.pair-index in
    let r = loop_room c.args.words.now c.args.at (pair_items w) c.requires _ _ (first c.as_chunks.result.0.now i ∷ []) (rest w i) (due (goal.at.put_word-next-requires c).In-loop-pair) in
    omega (arith, r)

pub loop-pair-preserved : goal.loop-pair-preserved
unfolding first rest
loop-pair-preserved c =
    let w = c.args.samples.now in
    let i = c.loop-pair.pair-index in
    loop_less c.args.words.now c.args.at (pair_items w) c.requires _ _ (first c.as_chunks.result.0.now i ∷ []) (rest w i) _ _ (due (goal.at.loop-pair-preserved c).In-loop-pair) (rw c.pair_word.ensures at c.put_word-next.ensures)

-- what is left behind the pairs
end : (c : After-loop-pair) → length c.as_chunks.result.0.now ≤ c.loop-pair.pair-index
    → Left c.args.words.now c.args.at (words_of (pair_items c.args.samples.now)) c.loop-pair.words c.loop-pair.next (words_of (pair_items c.as_chunks.result.1.now))
end c h =
    let e : c.loop-pair.pair-index ≡ length c.args.samples.now / 2 = omega (arith, c.as_chunks.ensures.front_len) in
    rw (e, ← c.as_chunks.ensures.back) at c.loop-pair.invariant

pub returns : goal.returns
returns c =
    let none : length c.as_chunks.result.1.now ≤ 0 = (c.in_default.ensures.item).3 in
    loop_none c.args.words.now c.args.at (pair_items c.args.samples.now) c.requires _ _ (rw (pairs_none c.as_chunks.result.1.now none) at (end (goal.at.returns c).After-loop-pair c.loop-pair-test.false))

-- the odd end is still to be written
odd : (c : In-Some) → Left c.args.words.now c.args.at (words_of (pair_items c.args.samples.now)) c.loop-pair.words c.loop-pair.next (words_of (pair_items c.as_chunks.result.1.now))
    → Left c.args.words.now c.args.at (words_of (pair_items c.args.samples.now)) c.loop-pair.words c.loop-pair.next (words_of (pair 1 c.in-Some.last.now 0 ∷ []))
odd c l =
    let item = c.in-Some.ensures.item in
    let few : length c.as_chunks.result.1.now < 2 = omega (arith, c.as_chunks.ensures.back_len) in
    rw (pairs_one c.as_chunks.result.1.now c.in-Some.last.now item.3.0 few item.1) at l

pub put_word-requires : goal.put_word-requires
put_word-requires c =
    let r = loop_room c.args.words.now c.args.at (pair_items c.args.samples.now) c.requires _ _ (pair 1 c.in-Some.last.now 0 ∷ []) [] (odd (goal.at.put_word-requires c).In-Some (end (goal.at.put_word-requires c).After-loop-pair c.loop-pair-test.false)) in
    omega (arith, r)

pub returns-in-Some : goal.returns-in-Some
returns-in-Some c =
    loop_last c.args.words.now c.args.at (pair_items c.args.samples.now) c.requires _ _ (pair 1 c.in-Some.last.now 0 ∷ []) _ _ (odd (goal.at.returns-in-Some c).In-Some (end (goal.at.returns-in-Some c).After-loop-pair c.loop-pair-test.false)) (rw c.odd_word.ensures at c.put_word.ensures)
