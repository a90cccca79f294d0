-- What follows from what a word is: the bits that it shows, and that before the trailer no block ends and no filler stands. Assumes nothing.
use Rattle.std.specs.Prelude.{ℕ, zero, suc, ◌<◌, ◌≡◌, refl, Bool, true, false, not, cond, ◌&&◌, List, [], ◌∷◌, eqb}
use Rattle.std.proofs.Common.{sym, ap, ◌∙◌, true≢false, arith, eqb-true, ne_eqb}
use Rattle.std.proofs.lemmas.Bool.{false≢true, not-true, eqb-false}
use Rattle.ground.specs.TestsLaws.{and_left, and_right}
use Rattle.fields.specs.Word.{read}
use Rattle.fields.specs.Tag.{is_defining, is_continuation}
use Rattle.fields.proofs.WordLaws.{field_lt}
use Rattle.types.specs.Types.{is_allowed}
use Rattle.items.specs.Items.{tag_fields, type_of, is_of}
use Rattle.items.specs.TypesLaws.{form_allowed}
use Rattle.items.specs.declared.Form.{Form}
use Rattle.items.specs.declared.Form.TheVariants as F
use Rattle.scan.specs.declared.Stage.{Stage}
use Rattle.scan.specs.declared.Stage.TheVariants as P
use Rattle.scan.specs.declared.Scan.{Scan}
use Rattle.meaning.specs.declared.Meaning.{Meaning}
use Rattle.meaning.specs.declared.Meaning.TheVariants as M
use Rattle.meaning.specs.Meaning.{scaler_or, more_by, more_in, edges, inner, allowed_by, allowed_in, other_by, other_in, meaning_in, meaning_at, is_end, unfinished_by, unfinished}

-- ---- a continuation, and a defining word of a type

pub meaning_more : (s : Scan) (word : ℕ) → is_continuation word ≡ true → meaning_at s word ≡ more_in s
unfolding meaning_at is_continuation
meaning_more s word h = rw h

pub meaning_type : (s : Scan) (word type : ℕ) → is_defining type word ≡ true → meaning_at s word ≡ meaning_in (other_in s) (allowed_in s) type
unfolding meaning_at is_defining
meaning_type s word type h =
    rw (eqb-true (read 31 31 word) 1 (and_left _ (eqb (read 30 27 word) type) h), eqb-true (read 30 27 word) type (and_right (eqb (read 31 31 word) 1) _ h))

-- in a window a continuation is a pair, and no other word may stand
pub window_pair : (s : Scan) (word : ℕ) {n : ℕ} {odd : Bool} → s.stage ≡ P.Window n odd → is_continuation word ≡ true → meaning_at s word ≡ M.Form F.Pair
window_pair s word p h = meaning_more s word h ∙ ap more_by p

pub window_other : (s : Scan) (word : ℕ) {n : ℕ} {odd : Bool} → s.stage ≡ P.Window n odd → is_continuation word ≡ false → meaning_at s word ≡ M.Unallowed
unfolding meaning_at is_continuation
window_other s word p h = rw (h, p)

-- ---- a word shows the bits of its form

abbrev shown : ℕ → Meaning → Bool
shown word (M.Form f) = is_of f word
shown word M.Unallowed = true
shown word M.End = true

scaler_shown : (n word : ℕ) → shown word (scaler_or n) ≡ true
scaler_shown n word = go (eqb n 0)
  where
    go : (b : Bool) → shown word (cond b M.Unallowed (M.Form F.Scaler)) ≡ true
    go true = refl
    go false = refl

more_shown : (p : Stage) (word : ℕ) → is_continuation word ≡ true → shown word (more_by p) ≡ true
more_shown P.Start word h = refl
more_shown P.Head word h = h
more_shown P.Front word h = refl
more_shown P.Opened word h = refl
more_shown (P.Timed d) word h = h
more_shown P.Items word h = refl
more_shown (P.Window n odd) word h = h
more_shown (P.Raw n some) word h = go (eqb n 0)
  where
    go : (b : Bool) → shown word (cond b M.Unallowed (M.Form F.Pair)) ≡ true
    go true = refl
    go false = h
more_shown (P.Tail n) word h = refl
more_shown (P.Scalers n) word h = scaler_shown n word

abbrev all_defining : List Form → Bool
all_defining [] = true
all_defining (f ∷ fs) = eqb (tag_fields f) 2 && all_defining fs

all_defining_lem : (p : Stage) → all_defining (allowed_by p) ≡ true
all_defining_lem P.Start = refl
all_defining_lem P.Head = refl
all_defining_lem P.Front = refl
all_defining_lem P.Opened = refl
all_defining_lem (P.Timed d) = refl
all_defining_lem P.Items = refl
all_defining_lem (P.Window n odd) = refl
all_defining_lem (P.Raw n some) = go some
  where
    go : (b : Bool) → all_defining (cond b inner []) ≡ true
    go true = refl
    go false = refl
all_defining_lem (P.Tail n) = go (eqb n 0)
  where
    go : (b : Bool) → all_defining (cond b [] (F.Filler ∷ [])) ≡ true
    go true = refl
    go false = refl
all_defining_lem (P.Scalers n) = go (eqb n 0)
  where
    go : (b : Bool) → all_defining (cond b edges []) ≡ true
    go true = refl
    go false = refl

-- a type that the list has not is that of no form
unlisted : (other : Meaning) (fs : List Form) (type : ℕ) → all_defining fs ≡ true → is_allowed type ≡ false → meaning_in other fs type ≡ other
unlisted other [] type d h = refl
unlisted other (f ∷ fs) type d h =
    rw (ne_eqb type (type_of f) (λ e. false≢true (sym h ∙ ap is_allowed e ∙ form_allowed f ∙ and_left (eqb (tag_fields f) 2) (all_defining fs) d)))
    (unlisted other fs type (and_right (eqb (tag_fields f) 2) (all_defining fs) d) h)

pub not_allowed : (s : Scan) (type : ℕ) → is_allowed type ≡ false → meaning_in (other_in s) (allowed_in s) type ≡ other_in s
not_allowed s type h = unlisted (other_in s) (allowed_in s) type (all_defining_lem s.stage) h

other_shown : (p : Stage) (word : ℕ) → shown word (other_by p) ≡ true
other_shown P.Start word = refl
other_shown P.Head word = refl
other_shown P.Front word = refl
other_shown P.Opened word = refl
other_shown (P.Timed d) word = refl
other_shown P.Items word = refl
other_shown (P.Window n odd) word = refl
other_shown (P.Raw n some) word = refl
other_shown (P.Tail n) word = refl
other_shown (P.Scalers n) word = scaler_shown n word

type_shown : (other : Meaning) (fs : List Form) (word : ℕ) → read 31 31 word ≡ 1 → shown word other ≡ true → all_defining fs ≡ true → shown word (meaning_in other fs (read 30 27 word)) ≡ true
unfolding is_defining
type_shown other [] word h o d = o
type_shown other (f ∷ fs) word h o d = go (eqb (read 30 27 word) (type_of f)) refl (type_shown other fs word h o (and_right (eqb (tag_fields f) 2) _ d))
  where
    go : (b : Bool) → eqb (read 30 27 word) (type_of f) ≡ b → shown word (meaning_in other fs (read 30 27 word)) ≡ true → shown word (cond b (M.Form f) (meaning_in other fs (read 30 27 word))) ≡ true
    go true e r = rw (and_left (eqb (tag_fields f) 2) (all_defining fs) d, h, e)
    go false e r = r

bit_shown : (s : Scan) (word : ℕ) → shown word (meaning_at s word) ≡ true
unfolding meaning_at is_continuation
bit_shown s word = go (eqb (read 31 31 word) 0) refl
  where
    one : (n : ℕ) → n < 2 → (n ≡ 0 → ⊥) → n ≡ 1
    one zero h f = absurd (f refl)
    one (suc n) h f = omega arith

    go : (b : Bool) → eqb (read 31 31 word) 0 ≡ b → shown word (cond b (more_in s) (meaning_in (other_in s) (allowed_in s) (read 30 27 word))) ≡ true
    go true e = more_shown s.stage word e
    go false e =
        type_shown (other_in s) (allowed_in s) word (one (read 31 31 word) (field_lt word 31 1) (eqb-false (read 31 31 word) 0 e)) (other_shown s.stage word) (all_defining_lem s.stage)

pub meaning_is : (s : Scan) (word : ℕ) {f : Form} → meaning_at s word ≡ M.Form f → is_of f word ≡ true
meaning_is s word e = sym (ap (shown word) e) ∙ bit_shown s word

-- ---- a word without a tag

-- only a scaler word has none
no_tag : (f : Form) → eqb (tag_fields f) 0 ≡ true → f ≡ F.Scaler
no_tag F.Block h = absurd (false≢true h)
no_tag F.Parameters h = absurd (false≢true h)
no_tag F.Trailer h = absurd (false≢true h)
no_tag F.Event h = absurd (false≢true h)
no_tag F.Clock h = absurd (false≢true h)
no_tag F.ClockHigh h = absurd (false≢true h)
no_tag F.Window h = absurd (false≢true h)
no_tag F.Raw h = absurd (false≢true h)
no_tag F.Pair h = absurd (false≢true h)
no_tag F.Integral h = absurd (false≢true h)
no_tag F.Time h = absurd (false≢true h)
no_tag F.Pedestal h = absurd (false≢true h)
no_tag F.Empty h = absurd (false≢true h)
no_tag F.Filler h = absurd (false≢true h)
no_tag F.Scalers h = absurd (false≢true h)
no_tag F.Scaler h = refl

abbrev untagged : Meaning → Bool
untagged (M.Form f) = eqb (tag_fields f) 0
untagged M.Unallowed = false
untagged M.End = false

-- words of an event's scalers are to come
abbrev pub among_by : Stage → Bool
among_by P.Start = false
among_by P.Head = false
among_by P.Front = false
among_by P.Opened = false
among_by (P.Timed d) = false
among_by P.Items = false
among_by (P.Window n odd) = false
among_by (P.Raw n some) = false
among_by (P.Tail n) = false
among_by (P.Scalers n) = not (eqb n 0)

-- a list of forms with a tag gives none without
tagged_in : (other : Meaning) (fs : List Form) (type : ℕ) → untagged other ≡ false → all_defining fs ≡ true → untagged (meaning_in other fs type) ≡ false
tagged_in other [] type o h = o
tagged_in other (f ∷ fs) type o h = go (eqb type (type_of f)) (eqb-true (tag_fields f) 2 (and_left _ (all_defining fs) h)) (tagged_in other fs type o (and_right (eqb (tag_fields f) 2) _ h))
  where
    go : (b : Bool) → tag_fields f ≡ 2 → untagged (meaning_in other fs type) ≡ false → untagged (cond b (M.Form f) (meaning_in other fs type)) ≡ false
    go true i r = rw i
    go false i r = r

-- whatever the word is, it is one of the scalers exactly where such are to come
by_among : (p : Stage) (b : Bool) (type : ℕ) → untagged (cond b (more_by p) (meaning_in (other_by p) (allowed_by p) type)) ≡ among_by p
by_among P.Start true type = refl
by_among P.Head true type = refl
by_among P.Front true type = refl
by_among P.Opened true type = refl
by_among (P.Timed d) true type = refl
by_among P.Items true type = refl
by_among (P.Window n odd) true type = refl
by_among (P.Raw n some) true type = go (eqb n 0)
  where
    go : (b : Bool) → untagged (cond b M.Unallowed (M.Form F.Pair)) ≡ false
    go true = refl
    go false = refl
by_among (P.Tail n) true type = refl
by_among (P.Scalers n) true type = go (eqb n 0)
  where
    go : (b : Bool) → untagged (cond b M.Unallowed (M.Form F.Scaler)) ≡ not b
    go true = refl
    go false = refl
by_among P.Start false type = tagged_in M.Unallowed (allowed_by P.Start) type refl refl
by_among P.Head false type = tagged_in M.Unallowed edges type refl refl
by_among P.Front false type = tagged_in M.Unallowed edges type refl refl
by_among P.Opened false type = tagged_in M.Unallowed (allowed_by P.Opened) type refl refl
by_among (P.Timed d) false type = tagged_in M.Unallowed inner type refl refl
by_among P.Items false type = tagged_in M.Unallowed inner type refl refl
by_among (P.Window n odd) false type = refl
by_among (P.Raw n some) false type = tagged_in M.Unallowed (allowed_by (P.Raw n some)) type refl (all_defining_lem (P.Raw n some))
by_among (P.Tail n) false type = tagged_in M.End (allowed_by (P.Tail n)) type refl (all_defining_lem (P.Tail n))
by_among (P.Scalers n) false type = go (eqb n 0)
  where
    go : (b : Bool) → untagged (meaning_in (cond b M.Unallowed (M.Form F.Scaler)) (cond b edges []) type) ≡ not b
    go true = tagged_in M.Unallowed edges type refl refl
    go false = refl

untagged_at : (s : Scan) (word : ℕ) → untagged (meaning_at s word) ≡ among_by s.stage
unfolding meaning_at
untagged_at s word = by_among s.stage (eqb (read 31 31 word) 0) (read 30 27 word)

-- so where one word is a scaler word every word is
pub scaler_any : (s : Scan) (v w : ℕ) → meaning_at s w ≡ M.Form F.Scaler → meaning_at s v ≡ M.Form F.Scaler
scaler_any s v w e = go (meaning_at s v) (untagged_at s v ∙ sym (untagged_at s w) ∙ ap untagged e)
  where
    go : (m : Meaning) → untagged m ≡ true → m ≡ M.Form F.Scaler
    go (M.Form f) h = ap M.Form (no_tag f h)
    go M.Unallowed h = absurd (false≢true h)
    go M.End h = absurd (false≢true h)

-- ---- words that are alike

-- where a word is of a form, so is every word that shows the bits of that form
pub meaning_alike : (s : Scan) (f : Form) (v w : ℕ) → is_of f v ≡ true → meaning_at s w ≡ M.Form f → meaning_at s v ≡ M.Form f
meaning_alike s f v w a e = go (eqb (tag_fields f) 2) (eqb (tag_fields f) 1) refl refl a (meaning_is s w e)
  where
    few : (f : Form) → eqb (tag_fields f) 2 ≡ false → eqb (tag_fields f) 1 ≡ false → f ≡ F.Scaler
    few F.Scaler h k = refl
    few F.Block h k = absurd (true≢false h)
    few F.Parameters h k = absurd (true≢false k)
    few F.Trailer h k = absurd (true≢false h)
    few F.Event h k = absurd (true≢false h)
    few F.Clock h k = absurd (true≢false h)
    few F.ClockHigh h k = absurd (true≢false k)
    few F.Window h k = absurd (true≢false h)
    few F.Raw h k = absurd (true≢false h)
    few F.Pair h k = absurd (true≢false k)
    few F.Integral h k = absurd (true≢false h)
    few F.Time h k = absurd (true≢false h)
    few F.Pedestal h k = absurd (true≢false h)
    few F.Empty h k = absurd (true≢false h)
    few F.Filler h k = absurd (true≢false h)
    few F.Scalers h k = absurd (true≢false h)

    go : (d c : Bool) → eqb (tag_fields f) 2 ≡ d → eqb (tag_fields f) 1 ≡ c → cond d (is_defining (type_of f) v) (cond c (is_continuation v) true) ≡ true
        → cond d (is_defining (type_of f) w) (cond c (is_continuation w) true) ≡ true → meaning_at s v ≡ M.Form f
    go true c h k a b = meaning_type s v (type_of f) a ∙ sym (meaning_type s w (type_of f) b) ∙ e
    go false true h k a b = meaning_more s v a ∙ sym (meaning_more s w b) ∙ e
    go false false h k a b = let g = few f h k in scaler_any s v w (e ∙ ap M.Form g) ∙ ap M.Form (sym g)

-- ---- before the trailer no block ends and no filler stands

abbrev is_filler : Form → Bool
is_filler F.Block = false
is_filler F.Parameters = false
is_filler F.Trailer = false
is_filler F.Event = false
is_filler F.Clock = false
is_filler F.ClockHigh = false
is_filler F.Window = false
is_filler F.Raw = false
is_filler F.Pair = false
is_filler F.Integral = false
is_filler F.Time = false
is_filler F.Pedestal = false
is_filler F.Empty = false
is_filler F.Filler = true
is_filler F.Scalers = false
is_filler F.Scaler = false

abbrev late : Meaning → Bool
late (M.Form f) = is_filler f
late M.Unallowed = false
late M.End = true

abbrev none_late : List Form → Bool
none_late [] = true
none_late (f ∷ fs) = not (is_filler f) && none_late fs

listed : (fs : List Form) (type : ℕ) → none_late fs ≡ true → late (meaning_in M.Unallowed fs type) ≡ false
listed [] type h = refl
listed (f ∷ fs) type h = go (eqb type (type_of f)) (not-true (is_filler f) (and_left _ (none_late fs) h)) (listed fs type (and_right (not (is_filler f)) _ h))
  where
    go : (b : Bool) → is_filler f ≡ false → late (meaning_in M.Unallowed fs type) ≡ false → late (cond b (M.Form f) (meaning_in M.Unallowed fs type)) ≡ false
    go true i r = i
    go false i r = r

by_open : (p : Stage) (b : Bool) (type : ℕ) → unfinished_by p ≡ true → late (cond b (more_by p) (meaning_in (other_by p) (allowed_by p) type)) ≡ false
by_open P.Start true type h = refl
by_open P.Head true type h = refl
by_open P.Front true type h = refl
by_open P.Opened true type h = refl
by_open (P.Timed d) true type h = refl
by_open P.Items true type h = refl
by_open (P.Window n odd) true type h = refl
by_open (P.Raw n some) true type h = go (eqb n 0)
  where
    go : (b : Bool) → late (cond b M.Unallowed (M.Form F.Pair)) ≡ false
    go true = refl
    go false = refl
by_open (P.Tail n) true type h = absurd (false≢true h)
by_open (P.Scalers n) true type h = go (eqb n 0)
  where
    go : (b : Bool) → late (cond b M.Unallowed (M.Form F.Scaler)) ≡ false
    go true = refl
    go false = refl
by_open P.Start false type h = listed (allowed_by P.Start) type refl
by_open P.Head false type h = listed (allowed_by P.Head) type refl
by_open P.Front false type h = listed (allowed_by P.Front) type refl
by_open P.Opened false type h = listed (allowed_by P.Opened) type refl
by_open (P.Timed d) false type h = listed inner type refl
by_open P.Items false type h = listed inner type refl
by_open (P.Window n odd) false type h = refl
by_open (P.Raw n some) false type h = go some
  where
    go : (b : Bool) → late (meaning_in M.Unallowed (cond b inner []) type) ≡ false
    go true = listed inner type refl
    go false = refl
by_open (P.Tail n) false type h = absurd (false≢true h)
by_open (P.Scalers n) false type h = go (eqb n 0)
  where
    go : (b : Bool) → late (meaning_in (cond b M.Unallowed (M.Form F.Scaler)) (cond b edges []) type) ≡ false
    go true = listed edges type refl
    go false = refl

meaning_open : (s : Scan) (word : ℕ) → unfinished s ≡ true → late (meaning_at s word) ≡ false
unfolding meaning_at
meaning_open s word h = by_open s.stage (eqb (read 31 31 word) 0) (read 30 27 word) h

-- so the block goes on there
pub no_end : (s : Scan) (word : ℕ) → unfinished s ≡ true → is_end (meaning_at s word) ≡ false
no_end s word h = go (meaning_at s word) (meaning_open s word h)
  where
    go : (m : Meaning) → late m ≡ false → is_end m ≡ false
    go (M.Form f) e = refl
    go M.Unallowed e = refl
    go M.End e = e

-- where it ends, or a filler stands, the trailer was read
tail_by : (s : Scan) (word : ℕ) → late (meaning_at s word) ≡ true → unfinished s ≡ false
tail_by s word e = go (unfinished s) refl
  where
    go : (b : Bool) → unfinished s ≡ b → b ≡ false
    go true h = sym e ∙ meaning_open s word h
    go false h = refl

pub end_tail : (s : Scan) (word : ℕ) → meaning_at s word ≡ M.End → unfinished s ≡ false
end_tail s word e = tail_by s word (ap late e)

pub filler_tail : (s : Scan) (word : ℕ) → meaning_at s word ≡ M.Form F.Filler → unfinished s ≡ false
filler_tail s word e = tail_by s word (ap late e)
