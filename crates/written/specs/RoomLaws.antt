-- A line that is written has room, and what a caller learns of it. Assumes nothing.
use Rattle.std.specs.Prelude.{ℕ, ◌+◌, ◌*◌, ◌≤◌, ◌<◌, ◌≡◌, Bool, true, false, cond, List, length, take, replicate}
use Rattle.std.specs.declared.option.Option.{Option}
use Rattle.std.specs.declared.option.Option.TheVariants.{Some, None}
use Rattle.std.proofs.Common.{ap, ap₂, ◌∙◌, arith}
use Rattle.std.proofs.lemmas.Bool.Decides.{nat_tests}
use Rattle.written.specs.Page.{Page, put}
use Rattle.written.specs.Line.{cells_of, line_of, line_text}
use Rattle.written.specs.PageLaws.{put_length, aside}
use Rattle.written.specs.Room.{has_room, on_to, written_of, aside_page}

pub room_fits : (room at name cells : ℕ) → has_room room at name cells ≡ true → at + name + 21 * cells < room
room_fits room at name cells e = grind (arith, nat_tests)

-- a pair tells its parts
module _ {A B : Type 0} {a c : A} {b d : B} (e : ◌≡◌ {A = A × B} (a, b) (c, d)) where
  first_is : a ≡ c
  first_is = ap (λ (y : A × B). y.0) e

  second_is : b ≡ d
  second_is = ap (λ (y : A × B). y.1) e

module _ (text : List ℕ) (at : ℕ) (name cells : List ℕ) (dashes : ℕ) {text' : List ℕ} {r : Option ℕ} (e : ◌≡◌ {A = List ℕ × Option ℕ} (text', r) (written_of (text, at) name cells dashes)) where
  pub written_at : {k : ℕ} → r ≡ Some k → ◌≡◌ {A = Page} (text', k) (put (text, at) (line_text (line_of name (cells_of dashes cells))))
  unfolding written_of
  written_at {k} g = go (has_room (length text) at (length name) (length cells)) (put (text, at) (line_text (line_of name (cells_of dashes cells)))) e
    where
      go : (b : Bool) (p : Page) → ◌≡◌ {A = List ℕ × Option ℕ} (text', r) (cond b (on_to p) (text, None)) → ◌≡◌ {A = Page} (text', k) p
      go true p h = let at_next : k ≡ p.1 = cc (second_is h) in ap₂ (λ (l : List ℕ) (n : ℕ). (l, n)) (first_is h) at_next
      go false p h = cc (second_is h)

  pub written_none : r ≡ None → text' ≡ text
  unfolding written_of
  written_none g = go (has_room (length text) at (length name) (length cells)) (put (text, at) (line_text (line_of name (cells_of dashes cells)))) e
    where
      go : (b : Bool) (p : Page) → ◌≡◌ {A = List ℕ × Option ℕ} (text', r) (cond b (on_to p) (text, None)) → text' ≡ text
      go true p h = cc (second_is h)
      go false p h = first_is h

-- ---- a cell on a page of its own

module _ {bytes : List ℕ} {count : ℕ} (all : List ℕ) (e : ◌≡◌ {A = Page} (bytes, count) (put aside_page all)) where
  pub aside_length : length bytes ≡ 21
  aside_length = ap (λ (p : Page). length p.0) e ∙ put_length aside_page all

  pub aside_take : count ≤ 21 → take count bytes ≡ all
  aside_take h = aside (replicate 21 0) all bytes count e h (omega arith)
