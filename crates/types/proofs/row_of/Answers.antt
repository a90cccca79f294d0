-- `types::row_of` meets its contract: on a numeral, row by row, the table says what the definitions say.
use Rattle.std.proofs.Common.{refl, ne_eqb}
use Rattle.framing.specs.Words.{scalers_fixed}
use Rattle.raw.specs.Words.{window_fixed, pulse_raw_fixed}
use Rattle.measures.specs.Words.{time_fixed}
use Rattle.types.specs.TypesLaws.{no_bits, one_run}
use Rattle.types.proofs.row_of.Goals as goal

pub returns-in-0 : goal.returns-in-0
returns-in-0 c = rw c.in-0.is (no_bits refl refl (λ word. refl))

pub returns-in-1 : goal.returns-in-1
returns-in-1 c = rw c.in-1.is (no_bits refl refl (λ word. refl))

pub returns-in-2 : goal.returns-in-2
returns-in-2 c = rw c.in-2.is (no_bits refl refl (λ word. refl))

pub returns-in-3 : goal.returns-in-3
returns-in-3 c = rw c.in-3.is (no_bits refl refl (λ word. refl))

pub returns-in-4 : goal.returns-in-4
unfolding window_fixed
returns-in-4 c = rw c.in-4.is (one_run 12 11 refl refl (λ word. refl))

pub returns-in-5 : goal.returns-in-5
returns-in-5 c = rw c.in-5.is (no_bits refl refl (λ word. refl))

pub returns-in-6 : goal.returns-in-6
unfolding pulse_raw_fixed
returns-in-6 c = rw c.in-6.is (one_run 10 11 refl refl (λ word. refl))

pub returns-in-7 : goal.returns-in-7
returns-in-7 c = rw c.in-7.is (no_bits refl refl (λ word. refl))

pub returns-in-8 : goal.returns-in-8
unfolding time_fixed
returns-in-8 c = rw c.in-8.is (one_run 15 4 refl refl (λ word. refl))

pub returns-in-9 : goal.returns-in-9
returns-in-9 c = rw c.in-9.is (no_bits refl refl (λ word. refl))

pub returns-in-10 : goal.returns-in-10
returns-in-10 c = rw c.in-10.is (no_bits refl refl (λ word. refl))

pub returns-in-11 : goal.returns-in-11
returns-in-11 c = rw c.in-11.is (no_bits refl refl (λ word. refl))

pub returns-in-12 : goal.returns-in-12
unfolding scalers_fixed
returns-in-12 c = rw c.in-12.is (one_run 6 21 refl refl (λ word. refl))

pub returns-in-13 : goal.returns-in-13
returns-in-13 c = rw c.in-13.is (no_bits refl refl (λ word. refl))

pub returns-in-14 : goal.returns-in-14
returns-in-14 c = rw c.in-14.is (no_bits refl refl (λ word. refl))

pub returns-in-15 : goal.returns-in-15
returns-in-15 c = rw c.in-15.is (no_bits refl refl (λ word. refl))

pub returns-in_default : goal.returns-in_default
returns-in_default c =
    let r = c.in_default.in_default-own.rest in
    no_bits
    (simp (ne_eqb _ _ r.0.0.0.0.0.0.0.0.0.0.0.0.0.0.0.1, ne_eqb _ _ r.0.0.0.0.0.0.0.0.0.0.0.0.0.0.1, ne_eqb _ _ r.0.0.0.0.0.0.0.0.0.0.0.0.0.1, ne_eqb _ _ r.0.0.0.0.0.0.0.0.0.0.0.0.1, ne_eqb _ _ r.0.0.0.0.0.0.0.0.0.0.0.1, ne_eqb _ _ r.0.0.0.0.0.0.0.0.0.1, ne_eqb _ _ r.0.0.0.0.0.0.0.0.1, ne_eqb _ _ r.0.0.0.0.0.0.0.1, ne_eqb _ _ r.0.0.0.0.0.1, ne_eqb _ _ r.0.0.0.1, ne_eqb _ _ r.0.1, ne_eqb _ _ r.1))
    (simp (ne_eqb _ _ r.0.0.0.0.0.0.0.0.0.0.0.0.0.0.0.1, ne_eqb _ _ r.0.0.0.0.0.0.0.0.0.0.0.0.0.0.1, ne_eqb _ _ r.0.0.0.0.0.0.0.0.0.0.0.0.0.1, ne_eqb _ _ r.0.1, ne_eqb _ _ r.1))
    (λ word. simp (ne_eqb _ _ r.0.0.0.0.0.0.0.0.0.0.0.1, ne_eqb _ _ r.0.0.0.0.0.0.0.0.0.1, ne_eqb _ _ r.0.0.0.0.0.0.0.1, ne_eqb _ _ r.0.0.0.1))
