-- The fields of a packed answer come back: none ever spills into another.
use Prim.Native.Nat.{ℕ, ◌^◌, ◌≤◌, ◌<◌}
use mathlib.Core.Path.{◌≡◌}
use native.Mathlib.Omega.{arith}
use lib.Dec.{lit≤}
use Rattle.seq.specs.Words.{bit}
use Rattle.seq.proofs.Laws.{bit-most}
use Rattle.numbers.specs.declared.Answer.{Answer}
use Rattle.numbers.specs.declared.Refusal.{Refusal}
use Rattle.numbers.specs.Numbers.{row_of, number_of, only}
use Rattle.numbers.proofs.Laws.{Facts, facts}
use Rattle.state.specs.Packed.{packed, field}

-- what each field has room for
pub record Fits (a : Answer) : Type 0 where
  pub status : a.status < 256
  pub mark : a.mark ≤ 1
  pub lines : a.lines < 256
  pub copy : a.copy < 512
  pub first : a.first < 256
  pub count : a.count < 32768

-- the nine, each where the C header says, and no bit above them
pub record Unpacked (a : Answer) : Type 0 where
  pub number : field (packed a) 0 8 ≡ number_of a.refusal
  pub status : field (packed a) 8 8 ≡ a.status
  pub ready : field (packed a) 16 1 ≡ bit a.ready 1
  pub mark : field (packed a) 17 1 ≡ a.mark
  pub cause : field (packed a) 18 6 ≡ (row_of 0 a.refusal).cause
  pub lines : field (packed a) 24 8 ≡ a.lines
  pub copy : field (packed a) 32 9 ≡ a.copy
  pub first : field (packed a) 41 8 ≡ a.first
  pub count : field (packed a) 49 15 ≡ a.count
  pub above : packed a < 2 ^ 64

-- The number comes back of every answer, whatever its other fields are.
pub number-back : (a : Answer) → field (packed a) 0 8 ≡ number_of a.refusal
unfolding packed
number-back a = omega (arith, (facts 0 0 a.refusal).number_most)

-- The fields of an answer that fits them come back.
pub fields : (a : Answer) → Fits a → Unpacked a
unfolding packed
fields a h =
    let x : Facts 0 0 a.refusal = facts 0 0 a.refusal in
    let r : bit a.ready 1 ≤ 1 = bit-most a.ready 1 in
    record {
      number = number-back a;
      status = omega arith;
      ready = omega arith;
      mark = omega arith;
      cause = omega arith;
      lines = omega arith;
      copy = omega arith;
      first = omega arith;
      count = omega arith;
      above = omega arith;
    }

-- An answer that tells nothing but number and status, as every refusal does.
pub only-fits : (x : Refusal) (n : ℕ) → n < 256 → Fits (only x n)
only-fits x n h = record { status = h; mark = lit≤ tt; lines = lit≤ tt; copy = lit≤ tt; first = lit≤ tt; count = lit≤ tt }
