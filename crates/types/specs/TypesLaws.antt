-- What a row says where no bit, or one run of bits, must be zero. Assumes nothing.
use Rattle.std.specs.Prelude.{ℕ, ◌+◌, ◌-◌, ◌^◌, ◌≡◌, Bool, true, eqb}
use Rattle.std.proofs.Common.{ap, ◌∙◌}
use Rattle.std.specs.Int.Bits.{and_zero_r}
use Rattle.fields.specs.Word.{field_at}
use Rattle.fields.proofs.WordLaws.{masked_field}
use Rattle.types.specs.Types.{is_allowed, has_slot, zeros_clear, RowSays}

pub no_bits : {type : ℕ} {allowed slot : Bool} → allowed ≡ is_allowed type → slot ≡ has_slot type → ((word : ℕ) → true ≡ zeros_clear type word)
    → RowSays type (allowed, slot, 0)
no_bits a s z = record { allowed = a; slot = s; zeros = λ word. ap (λ (x : ℕ). eqb x 0) (and_zero_r word) ∙ z word }

pub one_run : {type : ℕ} {allowed slot : Bool} (place width : ℕ) → allowed ≡ is_allowed type → slot ≡ has_slot type
    → ((word : ℕ) → eqb (field_at word place width) 0 ≡ zeros_clear type word) → RowSays type (allowed, slot, 2 ^ (width + place) - 2 ^ place)
one_run place width a s z = record { allowed = a; slot = s; zeros = λ word. masked_field word place width ∙ z word }
