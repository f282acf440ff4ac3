-- The answer of a call as the one 64-bit number that a C host gets. A field's place is a bit, and each follows the one before it.
use Rattle.std.specs.Prelude.{ℕ, ◌+◌, ◌*◌, ◌/◌, ◌%◌, ◌^◌}
use Rattle.seq.specs.Words.{bit}
use Rattle.numbers.specs.declared.Answer.{Answer}
use Rattle.numbers.specs.Numbers.{row_of, number_of}

-- Number in 8 bits, status 8, page ready 1, overlay mark 1, load check cause 6, lines moved 8, copy number 9, first unprintable position 8, how many 15.
abbrev pub joined : ℕ → ℕ → ℕ → ℕ → ℕ → ℕ → ℕ → ℕ → ℕ → ℕ
joined number status ready mark cause lines copy first count =
    number
    + status * 0x100
    + ready * 0x10000
    + mark * 0x20000
    + cause * 0x40000
    + lines * 0x1000000
    + copy * 0x100000000
    + first * 0x20000000000
    + count * 0x2000000000000

unfoldable pub packed : Answer → ℕ
packed a =
    joined (number_of a.refusal) a.status (bit a.ready 1) a.mark (row_of 0 a.refusal).cause a.lines a.copy a.first a.count

-- So many bits of a packed answer from bit `low` on, as the C header takes them.
abbrev pub field : ℕ → ℕ → ℕ → ℕ
field n low bits = n / 2 ^ low % 2 ^ bits
