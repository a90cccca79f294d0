-- Demand 2: "Reading a block .. gives back every field as written", the other way round: whatever the reader took, built again, are the words that were
-- there, undefined bits of types 14 and 15 as zero. Assumes nothing.
use Rattle.std.specs.Prelude.{ℕ, ◌^◌, ◌<◌, ◌≡◌, refl, true, not, List, [], ◌∷◌}
use Rattle.std.proofs.Common.{sym, ap, ◌∙◌}
use Rattle.std.proofs.lemmas.Bool.{not-false}
use Rattle.ground.specs.TestsLaws.{or_none}
use Rattle.framing.specs.WordsLaws.{block_header_back, parameters_back, trailer_back, event_header_back, trigger_time_back, trigger_time_high_back, scalers_back, scaler_back, empty_back, filler_back}
use Rattle.raw.specs.WordsLaws.{window_back, pulse_raw_back, pair_back}
use Rattle.measures.specs.WordsLaws.{integral_back, time_back, pedestal_back}
use Rattle.items.specs.Items.{word_of, form_of, item_from, fixed_in, clean_of, is_of}
use Rattle.items.specs.declared.Form.{Form}
use Rattle.items.specs.declared.Form.TheVariants as F
use Rattle.items.specs.declared.Item.{Item}
use Rattle.scan.specs.declared.Scan.{Scan}
use Rattle.meaning.specs.MeaningLaws.{meaning_is}
use Rattle.questions.specs.Questions.{item_wrong}
use Rattle.reader.specs.Step.{Step}
use Rattle.reader.specs.Step as S
use Rattle.reader.specs.Reader.{step_at, with_item, judge_at, on_judged, read_from}
use Rattle.reader.specs.ReaderLaws.{Accepted, accepted}

-- ---- what is said

-- the numbers are words
abbrev pub AllWords : List ℕ → Type 0
AllWords [] = Unit {0}
AllWords (w ∷ ws) = (w < 2 ^ 32) × AllWords ws

-- the records' words, one after the other, are those that were there, but for undefined bits; more may follow
abbrev pub Spell : List Item → List ℕ → Type 0
Spell [] ws = Unit {0}
Spell (x ∷ xs) [] = ⊥
Spell (x ∷ xs) (w ∷ ws) = (word_of x ≡ clean_of (form_of x) w) × Spell xs ws

-- ---- a word that was taken apart, built again

word_back : (f : Form) (w : ℕ) → w < 2 ^ 32 → is_of f w ≡ true → fixed_in f w ≡ true → word_of (item_from f w) ≡ clean_of f w
unfolding word_of
word_back F.Block w l t z = block_header_back w l t z
word_back F.Parameters w l t z = parameters_back w l t z
word_back F.Trailer w l t z = trailer_back w l t
word_back F.Event w l t z = event_header_back w l t
word_back F.Clock w l t z = trigger_time_back w l t
word_back F.ClockHigh w l t z = trigger_time_high_back w l t z
word_back F.Window w l t z = window_back w l t z
word_back F.Raw w l t z = pulse_raw_back w l t z
word_back F.Pair w l t z = pair_back w l t z
word_back F.Integral w l t z = integral_back w l t
word_back F.Time w l t z = time_back w l t z
word_back F.Pedestal w l t z = pedestal_back w l t
word_back F.Empty w l t z = empty_back w l t
word_back F.Filler w l t z = filler_back w l t
word_back F.Scalers w l t z = scalers_back w l t z
word_back F.Scaler w l t z = scaler_back w l

pub form_back : (f : Form) (w : ℕ) → form_of (item_from f w) ≡ f
form_back F.Block w = refl
form_back F.Parameters w = refl
form_back F.Trailer w = refl
form_back F.Event w = refl
form_back F.Clock w = refl
form_back F.ClockHigh w = refl
form_back F.Window w = refl
form_back F.Raw w = refl
form_back F.Pair w = refl
form_back F.Integral w = refl
form_back F.Time w = refl
form_back F.Pedestal w = refl
form_back F.Empty w = refl
form_back F.Filler w = refl
form_back F.Scalers w = refl
form_back F.Scaler w = refl

-- what was taken, built again, is the word
took : (s : Scan) (w : ℕ) (f : Form) (u : Scan) → w < 2 ^ 32 → Accepted s w f u → word_of (item_from f w) ≡ clean_of (form_of (item_from f w)) w
took s w f u l a =
    word_back f w l (meaning_is s w a.form) (not-false _ (or_none (not (fixed_in f w)) (item_wrong s (item_from f w)) a.off.1.1.1.0).0)
    ∙ ap (λ (g : Form). clean_of g w) (sym (form_back f w))

-- no two blocks read alike: the records before a run's end are spelt by the words read
pub nothing_lost : (s : Scan) (ws : List ℕ) → AllWords ws → Spell (read_from s ws).items ws
unfolding read_from judge_at
nothing_lost s [] a = tt
nothing_lost s (w ∷ ws) a = go (step_at s w) refl (λ t. nothing_lost t ws a.1)
  where
    go : (j : Step) → step_at s w ≡ j → ((t : Scan) → Spell (read_from t ws).items ws)
        → Spell (on_judged (with_item w j) s.place (λ t. read_from t ws)).items (w ∷ ws)
    go (S.Went f t) e n = (took s w f t a.0 (accepted s w e), n t)
    go (S.Refused k p) e n = tt
    go S.Ended e n = tt

-- the same words, but for the undefined bits of the records that have some
abbrev pub Alike : List Item → List ℕ → List ℕ → Type 0
Alike [] vs ws = Unit {0}
Alike (x ∷ xs) [] ws = ⊥
Alike (x ∷ xs) (v ∷ vs) [] = ⊥
Alike (x ∷ xs) (v ∷ vs) (w ∷ ws) = (clean_of (form_of x) v ≡ clean_of (form_of x) w) × Alike xs vs ws

spell_alike : (xs : List Item) (vs ws : List ℕ) → Spell xs vs → Spell xs ws → Alike xs vs ws
spell_alike [] vs ws a b = tt
spell_alike (x ∷ xs) [] ws a b = a
spell_alike (x ∷ xs) (v ∷ vs) [] a b = b
spell_alike (x ∷ xs) (v ∷ vs) (w ∷ ws) a b = (sym a.0 ∙ b.0, spell_alike xs vs ws a.1 b.1)

pub read_alike : (s : Scan) (vs ws : List ℕ) → AllWords vs → AllWords ws → (read_from s vs).items ≡ (read_from s ws).items → Alike (read_from s vs).items vs ws
read_alike s vs ws a b e = spell_alike (read_from s vs).items vs ws (nothing_lost s vs a) (rw e (nothing_lost s ws b))
