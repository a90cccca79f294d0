-- The invariant of every loop that copies a list into a lent buffer, an element a turn, over any element. Assumes nothing.
use Rattle.std.specs.Prelude.{◌≡◌, refl, List, ℕ, ◌+◌, ◌≤◌, ◌<◌, length, take, drop, set, get_or}
use Rattle.std.proofs.Common.{sym, ap, ◌∙◌, arith, length-set, length-take, take_all, get_or-drop}
use Rattle.ground.specs.Splice.{splice}
use Rattle.ground.specs.SpliceLaws.{splice_nil, splice_take, drop_splice}

module _ {A : Type 0} where
  -- the first i elements of src stand in buf from place `at`, and all else is as it was in buf₀
  pub record Copied (buf₀ : List A) (at : ℕ) (src buf : List A) (i : ℕ) : Type 0 where
    pub size : length buf ≡ length buf₀
    pub words : buf ≡ splice buf₀ at (take i src)

  pub copy_start : (buf : List A) (at : ℕ) (src : List A) → Copied buf at src buf 0
  copy_start buf at src = record { size = refl; words = sym (splice_nil buf at) }

  module _ {buf₀ : List A} {at : ℕ} {src buf : List A} {i : ℕ} (c : Copied buf₀ at src buf i) where
    -- the next element is stored at its place
    pub copy_turn : (place : ℕ) (d : A) → place ≡ at + i → i < length src → at + i < length buf₀ → Copied buf₀ at src (set buf place (get_or src i d)) (i + 1)
    copy_turn place d e h k =
        record {
          size = simp length-set c.size;
          words = ap (λ (n : ℕ). set buf n (get_or src i d)) e ∙ ap (λ (l : List A). set l (at + i) (get_or src i d)) c.words ∙ splice_take buf₀ at src i d k h;
        }

    pub copy_end : length src ≤ i → buf ≡ splice buf₀ at src
    copy_end h = c.words ∙ ap (splice buf₀ at) (take_all i src h)

    -- what is not copied over yet is as it was
    pub copy_ahead : (d : A) → at ≡ 0 → i ≤ length src → get_or buf i d ≡ get_or buf₀ i d
    copy_ahead d z h =
        let n : at + length (take i src) + 0 ≡ i = omega (arith, z, length-take i src) in
        let same : drop i buf ≡ drop i buf₀ = rw c.words (rw n at (drop_splice buf₀ at (take i src) 0 (omega (arith, z)))) in
        first buf ∙ ap (λ (l : List A). get_or l 0 d) same ∙ sym (first buf₀)
      where
        first : (l : List A) → get_or l i d ≡ get_or (drop i l) 0 d
        first l = sym (get_or-drop i l 0 d ∙ ap (λ (k : ℕ). get_or l k d) (omega arith))
