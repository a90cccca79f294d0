-- Demand 2: a block is accepted exactly if it is the words of a well-formed tree's records, undefined bits of types 14 and 15 aside; whatever stands
-- behind it, if the block ends there. Assumes nothing.
use Rattle.std.specs.Prelude.{ℕ, ◌*◌, ◌/◌, ◌^◌, ◌≡◌, refl, true, List, [], ◌∷◌, ◌++◌, ◌↔◌, length, take, drop}
use Rattle.std.proofs.Common.{sym, ap, ◌∙◌, subst, append-nil, arith, take-append-drop, length-take-le}
use Rattle.std.proofs.Math.Seq.{take-length}
use Rattle.fields.specs.Word.{field_at, read}
use Rattle.fields.specs.Tag.{is_defining}
use Rattle.framing.specs.Words.{empty_of, filler_of}
use Rattle.items.specs.Items.{word_of, fits, form_of, clean_of}
use Rattle.items.specs.declared.Item.{Item}
use Rattle.items.specs.declared.Item.TheVariants as I
use Rattle.scan.specs.declared.Scan.{Scan}
use Rattle.scan.specs.After.{start_of, after}
use Rattle.reader.specs.Reader.{then, just, Whole, Reading, read_from}
use Rattle.reader.specs.RunLaws.{items_le}
use Rattle.layout.specs.FirstWrong.{records_before}
use Rattle.layout.specs.NothingLost.{AllWords, Spell, nothing_lost}
use Rattle.layout.specs.Layout.{Follow}
use Rattle.layout.specs.LayoutLaws.{WordSays, says, read_step, behind}
use Rattle.layout.specs.AcceptedLaws.{accepted_block}
use Rattle.layout.specs.Grammar.{Tree, block, empty, records_of, Spelt, SpeltTree, Ends, no_filler, one_word, Front}
use Rattle.layout.proofs.GrammarLaws.{tree_is_block}
use Rattle.layout.proofs.ParseLaws.{Parsed, block_has_tree}
use Rattle.layout.proofs.EndsLaws.{ends_there, there_ends, whole_behind}

-- ---- a word with undefined bits

high_bits : (w : ℕ) → (read 31 31 (w / 2 ^ 22 * 2 ^ 22) ≡ read 31 31 w) × ((read 30 27 (w / 2 ^ 22 * 2 ^ 22) ≡ read 30 27 w) × (read 26 22 (w / 2 ^ 22 * 2 ^ 22) ≡ read 26 22 w))
unfolding field_at
high_bits w = (omega arith, (omega arith, omega arith))

high_type : (type w : ℕ) → is_defining type (w / 2 ^ 22 * 2 ^ 22) ≡ is_defining type w
unfolding is_defining
high_type type w = let b = high_bits w in rw (b.0, b.1.0)

says_clean : (x : Item) (w : ℕ) → fits x ≡ true → word_of x ≡ clean_of (form_of x) w → WordSays x w
unfolding empty_of filler_of
says_clean (I.Block r) w h e = subst (λ (v : ℕ). WordSays (I.Block r) v) e (says (I.Block r) h)
says_clean (I.Parameters r) w h e = subst (λ (v : ℕ). WordSays (I.Parameters r) v) e (says (I.Parameters r) h)
says_clean (I.Trailer r) w h e = subst (λ (v : ℕ). WordSays (I.Trailer r) v) e (says (I.Trailer r) h)
says_clean (I.Event r) w h e = subst (λ (v : ℕ). WordSays (I.Event r) v) e (says (I.Event r) h)
says_clean (I.Clock r) w h e = subst (λ (v : ℕ). WordSays (I.Clock r) v) e (says (I.Clock r) h)
says_clean (I.ClockHigh r) w h e = subst (λ (v : ℕ). WordSays (I.ClockHigh r) v) e (says (I.ClockHigh r) h)
says_clean (I.Window r) w h e = subst (λ (v : ℕ). WordSays (I.Window r) v) e (says (I.Window r) h)
says_clean (I.Raw r) w h e = subst (λ (v : ℕ). WordSays (I.Raw r) v) e (says (I.Raw r) h)
says_clean (I.Pair r) w h e = subst (λ (v : ℕ). WordSays (I.Pair r) v) e (says (I.Pair r) h)
says_clean (I.Integral r) w h e = subst (λ (v : ℕ). WordSays (I.Integral r) v) e (says (I.Integral r) h)
says_clean (I.Time r) w h e = subst (λ (v : ℕ). WordSays (I.Time r) v) e (says (I.Time r) h)
says_clean (I.Pedestal r) w h e = subst (λ (v : ℕ). WordSays (I.Pedestal r) v) e (says (I.Pedestal r) h)
says_clean (I.Scalers r) w h e = subst (λ (v : ℕ). WordSays (I.Scalers r) v) e (says (I.Scalers r) h)
says_clean (I.Scaler r) w h e = subst (λ (v : ℕ). WordSays (I.Scaler r) v) e (says (I.Scaler r) h)
says_clean (I.Empty r) w h e =
    let a : WordSays (I.Empty r) (w / 2 ^ 22 * 2 ^ 22) = subst (λ (v : ℕ). WordSays (I.Empty r) v) e (says (I.Empty r) h) in
    let b = high_bits w in
    record {
      tag = sym (high_type 14 w) ∙ a.tag;
      fixed = refl;
      item = ap (λ (k : ℕ). I.Empty (record { slot = k })) (sym b.1.1) ∙ a.item;
    }
says_clean (I.Filler r) w h e =
    let a : WordSays (I.Filler r) (w / 2 ^ 22 * 2 ^ 22) = subst (λ (v : ℕ). WordSays (I.Filler r) v) e (says (I.Filler r) h) in
    let b = high_bits w in
    record {
      tag = sym (high_type 15 w) ∙ a.tag;
      fixed = refl;
      item = ap (λ (k : ℕ). I.Filler (record { slot = k })) (sym b.1.1) ∙ a.item;
    }

-- ---- all words

-- records that stand one after the other, spelt by the words in front; the run ends behind them
read_spelt : (s : Scan) (xs : List Item) (us rest : List ℕ) → Follow s xs → Spelt xs us → read_from (behind s xs) rest ≡ just (Whole (behind s xs).place)
    → read_from s (us ++ rest) ≡ record { items = xs; out = Whole (behind s xs).place }
read_spelt s [] [] rest h p e = e
read_spelt s [] (w ∷ us) rest h p e = absurd p
read_spelt s (x ∷ xs) [] rest h p e = absurd p
read_spelt s (x ∷ xs) (w ∷ us) rest h p e = read_step s x w (us ++ rest) (says_clean x w h.0.widths p.0) h.0 ∙ ap (then x) (read_spelt (after s x) xs us rest h.1 p.1 e)

pub spelt_length : (xs : List Item) (ws : List ℕ) → Spelt xs ws → length xs ≡ length ws
spelt_length [] [] p = refl
spelt_length [] (w ∷ ws) p = absurd p
spelt_length (x ∷ xs) [] p = absurd p
spelt_length (x ∷ xs) (w ∷ ws) p = omega (arith, spelt_length xs ws p.1)

spell_front : (xs : List Item) (ws : List ℕ) → Spell xs ws → Spelt xs (take (length xs) ws)
spell_front [] ws p = tt
spell_front (x ∷ xs) [] p = p
spell_front (x ∷ xs) (w ∷ ws) p = (p.0, spell_front xs ws p.1)

-- ---- the layout said on its own, whatever follows

-- a block's words with words behind that it ends before: read as the block's records, and of its own length
pub followed : (us rest : List ℕ) (t : SpeltTree us) → Ends t.tree rest → read_from start_of (us ++ rest) ≡ record { items = records_of t.tree; out = Whole (length us) }
followed us rest t e =
    let xs : List Item = records_of t.tree in
    let r : read_from start_of (us ++ rest) ≡ record { items = xs; out = Whole (behind start_of xs).place } =
    read_spelt start_of xs us rest (tree_is_block t.tree t.formed) t.spelt (ends_there t.tree rest e) in
    let n : (behind start_of xs).place ≡ length xs = rw r at (records_before (us ++ rest)) in
    r ∙ ap (λ (k : ℕ). record { items = xs; out = Whole k }) (n ∙ spelt_length xs us t.spelt)

pub front_read : (ws : List ℕ) (n : ℕ) (f : Front ws n) → read_from start_of ws ≡ record { items = records_of f.first.tree; out = Whole n }
front_read ws n f =
    ap (read_from start_of) (sym (take-append-drop n ws)) ∙ followed (take n ws) (drop n ws) f.first f.ends
    ∙ ap (λ (k : ℕ). record { items = records_of f.first.tree; out = Whole k }) (length-take-le n ws f.within)

accepted_front : (ws : List ℕ) (n : ℕ) → AllWords ws → (read_from start_of ws).out ≡ Whole n → Front ws n
accepted_front ws n a e =
    let xs : List Item = (read_from start_of ws).items in
    let k : n ≡ length xs = rw e at (records_before ws) in
    let p : Parsed xs = block_has_tree xs (accepted_block ws n e) in
    let s : Spelt xs (take n ws) = subst (λ (m : ℕ). Spelt xs (take m ws)) (sym k) (spell_front xs ws (nothing_lost start_of ws a)) in
    let b : read_from (behind start_of xs) (drop n ws) ≡ just (Whole n) = subst (λ (m : ℕ). read_from (behind start_of xs) (drop m ws) ≡ just (Whole n)) (sym k) (whole_behind start_of ws n e) in
    record {
      within = omega (arith, k, items_le start_of ws);
      first = record { tree = p.tree; formed = p.formed; spelt = subst (λ (ys : List Item). Spelt ys (take n ws)) (sym p.are) s };
      ends = there_ends p.tree (drop n ws) n p.formed.tree (subst (λ (ys : List Item). read_from (behind start_of ys) (drop n ws) ≡ just (Whole n)) (sym p.are) b);
    }

-- accepted with n words exactly if the first n words are a block that ends there
pub accepted_exactly : (ws : List ℕ) (n : ℕ) → AllWords ws → ((read_from start_of ws).out ≡ Whole n) ↔ Front ws n
accepted_exactly ws n a = (accepted_front ws n a, λ f. ap (λ (r : Reading). r.out) (front_read ws n f))

-- ---- a block alone

pub accepted_tree : (ws : List ℕ) → AllWords ws → (read_from start_of ws).out ≡ Whole (length ws) → SpeltTree ws
accepted_tree ws a e = subst SpeltTree (take-length ws) (accepted_front ws (length ws) a e).first

pub alone : (t : Tree) → Ends t []
alone (block b) = no_filler tt
alone (empty r) = one_word

pub tree_accepted : (ws : List ℕ) (t : SpeltTree ws) → read_from start_of ws ≡ record { items = records_of t.tree; out = Whole (length ws) }
tree_accepted ws t = ap (read_from start_of) (sym (append-nil ws)) ∙ followed ws [] t (alone t.tree)
