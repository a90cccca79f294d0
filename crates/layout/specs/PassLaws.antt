-- Records that stand one after the other, put together; where the records of an event may stand. Assumes nothing.
use Rattle.std.specs.Prelude.{ℕ, ◌+◌, ◌<◌, ◌≡◌, refl, Bool, true, false, ◌&&◌, List, [], ◌++◌, eqb, length}
use Rattle.std.proofs.Common.{sym, ◌∙◌, subst, append_assoc, arith, ne_eqb, length-append}
use Rattle.items.specs.declared.Form.TheVariants as F
use Rattle.items.specs.declared.Item.{Item}
use Rattle.scan.specs.declared.Scan.{Scan}
use Rattle.scan.specs.After.{onward}
use Rattle.meaning.specs.declared.Meaning.TheVariants as M
use Rattle.meaning.specs.Meaning.{inner, allowed_in, other_in, meaning_in, unfinished}
use Rattle.questions.specs.Questions.{at_limit}
use Rattle.layout.specs.Layout.{Follow}

-- ---- one after the other

-- the records stand from s on, whatever follows; behind them `left` events are still to come, and the scan is as asked
pub record Inside (s : Scan) (xs : List Item) (left : ℕ) (ok : Scan → Type 0) : Type 0 where
  pub to : Scan
  pub passes : (ys : List Item) → Follow to ys → Follow s (xs ++ ys)
  pub place : to.place ≡ s.place + length xs
  pub slot : to.slot ≡ s.slot
  pub rest : to.left ≡ left
  pub stage : ok to

pub inside_none : (s : Scan) (ok : Scan → Type 0) → ok s → Inside s [] s.left ok
inside_none s ok h = record { to = s; passes = λ ys q. q; place = omega arith; slot = refl; rest = refl; stage = h }

pub inside_append : (s : Scan) (xs ys : List Item) (left more : ℕ) (ok good : Scan → Type 0) → Inside s xs left ok
    → ((t : Scan) → t.place ≡ s.place + length xs → t.slot ≡ s.slot → t.left ≡ left → ok t → Inside t ys more good)
    → Inside s (xs ++ ys) more good
inside_append s xs ys left more ok good a f =
    let b : Inside a.to ys more good = f a.to a.place a.slot a.rest a.stage in
    record {
      to = b.to;
      passes = λ zs q. subst (Follow s) (sym (append_assoc xs ys zs)) (a.passes (ys ++ zs) (b.passes zs q));
      place = b.place ∙ omega (arith, a.place, length-append xs ys);
      slot = b.slot ∙ a.slot;
      rest = b.rest;
      stage = b.stage;
    }

-- ---- where an event's records may stand

-- an item may stand here: any type but 3 is judged as among the items
abbrev pub Inner : Scan → Type 0
Inner s = (k : ℕ) → eqb k 3 ≡ false → meaning_in (other_in s) (allowed_in s) k ≡ meaning_in M.Unallowed inner k

-- an event may end or begin here: an event header and the trailer may stand
abbrev pub Edge : Scan → Type 0
Edge s = (meaning_in (other_in s) (allowed_in s) 2 ≡ M.Form F.Event) × (meaning_in (other_in s) (allowed_in s) 1 ≡ M.Form F.Trailer)

pub inner_edge : (s : Scan) → Inner s → Edge s
inner_edge s h = (h 2 refl, h 1 refl)

-- ---- the place

pub onward_one : (k : ℕ) → k < 4194303 → onward k ≡ k + 1
unfolding onward
onward_one k h = omega arith

pub not_limit : (s : Scan) → s.place < 4194303 → at_limit s ≡ false
unfolding at_limit
not_limit s h = rw (ne_eqb s.place 4194303 (omega arith)) (go (unfinished s))
  where
    go : (b : Bool) → (b && false) ≡ false
    go true = refl
    go false = refl

pub both : {a b : Bool} → a ≡ true → b ≡ true → (a && b) ≡ true
both p q = rw (p, q)
