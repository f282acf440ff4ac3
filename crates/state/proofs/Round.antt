-- A printer's bytes stand for that printer, and bytes that stand for a printer are that printer's bytes.
use Prim.Native.Nat.{ℕ, zero, suc, ◌+◌, ◌-◌, ◌/◌, ◌%◌, ◌≤◌}
use mathlib.Core.Path.{◌≡◌, refl, sym, ap, ◌∙◌}
use mathlib.Core.Bool.{Bool, true, false}
use mathlib.Core.List.{List, [], ◌∷◌, ◌++◌, append_assoc}
use native.Mathlib.Nat.{div-add-mod'}
use native.Mathlib.Omega.{arith}
use lib.ListN.{length, take, drop, get_or, length-append, take-append-drop, length-drop}
use lib.Seq.{take_at, drop_at, take_all, drop-drop, length-take-le}
use lib.Dec.{eqb, leb}
use mir.Val.{bool_byte}
use borrow.Author.Tests.{eqb-true, eq-eqb, leb-true}
use Rattle.seq.specs.Words.{all, listed}
use Rattle.seq.proofs.Laws.{every-at, every_of, finally, also, listed-all, spelled, four}
use Rattle.numbers.specs.declared.Sense.{Sense}
use Rattle.form.specs.Form.{fcb_size}
use Rattle.copies.specs.Copies.{pair_size}
use Rattle.counters.specs.declared.Counters.{Counters}
use Rattle.counters.specs.Counters.{counters}
use Rattle.calls.specs.declared.State.{State}
use Rattle.calls.specs.Core.{with_counters}
use Rattle.calls.specs.Premises.{Sized}
use Rattle.printer.specs.declared.Printer.{Printer}
use Rattle.printer.specs.Layout.{length_at, skip_at, blocked_at, loaded_at, sheet_at, written_at, waiting_at, due_at, pairs_at, fcb_at, channel_at, transfer_at, fuser_at, stacker_at, state_size}
use Rattle.state.specs.State.{sheet_bytes, small_bytes, bytes_of, printer_bytes, state_at, sense_at, readable, flag_places, byte_at, flag_at, pair_at, Bytes, counter_bytes, OwnSheet, SameArrays, OwnCounters}

-- a flag as a byte, and back
bit-small : (b : Bool) → leb (bool_byte b) 1 ≡ true
bit-small true = refl
bit-small false = refl

bit-flag : (b : Bool) → eqb (bool_byte b) 1 ≡ b
bit-flag true = refl
bit-flag false = refl

flag-bit : (n : ℕ) → leb n 1 ≡ true → bool_byte (eqb n 1) ≡ n
flag-bit zero e = refl
flag-bit (suc zero) e = refl
flag-bit (suc (suc n)) e = absurd (omega (arith, leb-true (suc (suc n)) 1 e))

-- four flags, one by one
four-flags : (l : List Bool) → length l ≡ 4 → get_or l 0 false ∷ get_or l 1 false ∷ get_or l 2 false ∷ get_or l 3 false ∷ [] ≡ l
four-flags l e = spelled false 0 4 l (omega arith) ∙ take_all 4 l (omega arith)

-- a printer's bytes are as many as a state has, each flag is 0 or 1
long : (s : State) (q : Sense) → Sized s → length (bytes_of s q) ≡ state_size
unfolding bytes_of
long s q z = simp length-append (omega (arith, z.pairs, z.fcb))

flagged : (s : State) (q : Sense) → all (λ n. leb (byte_at (bytes_of s q) n) 1) flag_places ≡ true
unfolding bytes_of
flagged s q = simp bit-small

pub readable-bytes : (s : State) (q : Sense) → Sized s → readable (bytes_of s q) ≡ true
unfolding readable
readable-bytes s q z = every_of (also (eq-eqb _ _ (long s q z)) (also (flagged s q) finally))

-- A printer comes back from its bytes: its counters, which stand last, and field by field all else.
abbrev tail : State → List ℕ
tail s = s.forms.fcb ++ counter_bytes s.counters

counters-last : (s : State) (q : Sense) → Sized s → drop channel_at (bytes_of s q) ≡ counter_bytes s.counters
unfolding bytes_of
counters-last s q z =
    sym (drop-drop fcb_size pair_size (s.copies.pairs ++ tail s))
    ∙ ap (drop fcb_size) (drop_at s.copies.pairs (tail s) pair_size z.pairs)
    ∙ drop_at s.forms.fcb (counter_bytes s.counters) fcb_size z.fcb

abbrev eight : List ℕ → Counters
eight l = counters (pair_at l 0) (pair_at l 2) (pair_at l 4) (pair_at l 6)

counters-back : (s : State) (q : Sense) → Sized s → (state_at (bytes_of s q)).counters ≡ s.counters
unfolding state_at
counters-back s q z =
    let c = s.counters in
    ap eight (spelled 0 channel_at 8 (bytes_of s q) (omega (arith, long s q z)) ∙ ap (take 8) (counters-last s q z))
    ∙ simp (div-add-mod' c.channel 256, div-add-mod' c.transfer 256, div-add-mod' c.fuser 256, div-add-mod' c.stacker 256)

others-back : (s : State) (q : Sense) → Sized s → with_counters (state_at (bytes_of s q)) s.counters ≡ s
unfolding bytes_of state_at
others-back s q z =
    simp (
      div-add-mod' s.fixed.length 256,
      four s.fixed.pitches z.pitches,
      bit-flag,
      four-flags s.slots.loaded z.loaded,
      take_at s.copies.pairs (tail s) pair_size z.pairs,
      drop_at s.copies.pairs (tail s) pair_size z.pairs,
      take_at s.forms.fcb (counter_bytes s.counters) fcb_size z.fcb,
    )

pub state-back : (s : State) (q : Sense) → Sized s → state_at (bytes_of s q) ≡ s
state-back s q z = ap (with_counters (state_at (bytes_of s q))) (counters-back s q z) ∙ others-back s q z

pub sense-back : (s : State) (q : Sense) → sense_at (bytes_of s q) ≡ q
unfolding bytes_of sense_at
sense-back s q = refl

-- Bytes that stand for a printer: as many as a state has, and each flag 0 or 1.
pub readable-size : (s : List ℕ) → readable s ≡ true → length s ≡ state_size
unfolding readable
readable-size s e = eqb-true _ _ (every-at 0 _ e)

flag_at_lem : (s : List ℕ) → readable s ≡ true → (n : ℕ) → listed flag_places n ≡ true → bool_byte (flag_at s n) ≡ byte_at s n
unfolding readable
flag_at_lem s e n h = flag-bit (byte_at s n) (listed-all (λ k. leb (byte_at s k) 1) n flag_places (every-at 1 _ e) h)

-- the printer that they stand for has arrays of the right lengths
pub sized-at : (s : List ℕ) → readable s ≡ true → Sized (state_at s)
unfolding state_at
sized-at s e =
    let size : length s ≡ state_size = readable-size s e in
    record {
      pitches = refl;
      loaded = refl;
      pairs = length-take-le pair_size (drop pairs_at s) (simp length-drop (omega arith));
      fcb = length-take-le fcb_size (drop fcb_at s) (simp length-drop (omega arith));
    }

-- a part and what comes after it
part : (n a : ℕ) (s : List ℕ) → take n (drop a s) ++ drop (a + n) s ≡ drop a s
part n a s = rw (← (drop-drop n a s)) (take-append-drop n (drop a s))

-- the two bytes of a number
high : (s : List ℕ) → Bytes s → (a : ℕ) → pair_at s a / 256 ≡ byte_at s a
high s h a = omega (arith, h (a + 1))

low : (s : List ℕ) → Bytes s → (a : ℕ) → pair_at s a % 256 ≡ byte_at s (a + 1)
low s h a = omega (arith, h (a + 1))

-- the arrays and the counters in their places
ends : (s : List ℕ) → Bytes s → length s ≡ state_size
    → take pair_size (drop pairs_at s) ++ (take fcb_size (drop fcb_at s) ++ counter_bytes (state_at s).counters) ≡ drop pairs_at s
unfolding state_at
ends s h e =
    rw (high s h channel_at, low s h channel_at, high s h transfer_at, low s h transfer_at, high s h fuser_at, low s h fuser_at, high s h stacker_at, low s h stacker_at)
    (ap (λ (l : List ℕ). take pair_size (drop pairs_at s) ++ (take fcb_size (drop fcb_at s) ++ l))
    (spelled 0 channel_at 8 s (omega arith) ∙ take_all 8 (drop channel_at s) (simp length-drop (omega arith)))
    ∙ ap (λ (l : List ℕ). take pair_size (drop pairs_at s) ++ l) (part fcb_size fcb_at s)
    ∙ part pair_size pairs_at s)

-- Bytes that stand for a printer come back from it.
pub back : (s : List ℕ) → Bytes s → readable s ≡ true → bytes_of (state_at s) (sense_at s) ≡ s
unfolding bytes_of state_at sense_at
back s h e =
    rw (
      ends s h (readable-size s e),
      high s h length_at,
      low s h length_at,
      flag_at_lem s e skip_at refl,
      flag_at_lem s e blocked_at refl,
      flag_at_lem s e loaded_at refl,
      flag_at_lem s e (loaded_at + 1) refl,
      flag_at_lem s e (loaded_at + 2) refl,
      flag_at_lem s e (loaded_at + 3) refl,
      flag_at_lem s e written_at refl,
      flag_at_lem s e waiting_at refl,
      flag_at_lem s e due_at refl,
    )
    (ap (λ (l : List ℕ). l ++ drop pairs_at s) (spelled 0 0 pairs_at s (omega (arith, readable-size s e))) ∙ take-append-drop pairs_at s)

-- Two states that are different bytes are different printers.
pub same_bytes : (s t : List ℕ) → Bytes s → Bytes t → readable s ≡ true → readable t ≡ true → state_at s ≡ state_at t
    → sense_at s ≡ sense_at t → s ≡ t
same_bytes s t h k d e p q = sym (back s h d) ∙ (λ i. bytes_of (p i) (q i)) ∙ back t k e

-- What comes after bytes that were laid.
pub laid : (a : ℕ) (s x : List ℕ) → a ≤ length s → drop a (take a s ++ x) ≡ x
laid a s x h = drop_at (take a s) x a (length-take-le a s h)

-- A printer that differs from the bytes' own in its sheet and its sense alone has the bytes with these laid over theirs.
pub put-sheet-bytes : (p : Printer) (s : List ℕ) → Bytes s → OwnSheet p s
    → take sheet_at s ++ (sheet_bytes p.state.sheet p.sense ++ drop pairs_at s) ≡ printer_bytes p
unfolding bytes_of
put-sheet-bytes p s h o =
    ap (λ (l : List ℕ). take sheet_at l ++ (sheet_bytes p.state.sheet p.sense ++ drop pairs_at l)) (sym (back s h o.read))
    ∙ ap (λ (t : State). bytes_of t p.sense) (sym o.same)

-- One that differs neither in an array nor in its counters has the bytes with all others laid over theirs.
pub put-small-bytes : (p : Printer) (s : List ℕ) → Bytes s → SameArrays p s → small_bytes p.state p.sense ++ drop pairs_at s ≡ printer_bytes p
unfolding bytes_of state_at
put-small-bytes p s h o = rw (o.pairs, o.fcb, o.counters, ends s h (readable-size s o.read))

-- One that differs in its counters alone has the bytes with these laid over theirs.
before-counters : (s : State) (q : Sense) → Sized s → take channel_at (bytes_of s q) ≡ small_bytes s q ++ (s.copies.pairs ++ s.forms.fcb)
unfolding bytes_of
before-counters s q z =
    let arrays = s.copies.pairs ++ s.forms.fcb in
    ap (λ (l : List ℕ). small_bytes s q ++ l)
    (ap (take (channel_at - pairs_at)) (sym (append_assoc s.copies.pairs s.forms.fcb (counter_bytes s.counters)))
    ∙ take_at arrays (counter_bytes s.counters) (channel_at - pairs_at) (length-append s.copies.pairs s.forms.fcb ∙ omega (arith, z.pairs, z.fcb)))

pub put-counters-bytes : (p : Printer) (s : List ℕ) → Bytes s → OwnCounters p s → take channel_at s ++ counter_bytes p.state.counters ≡ printer_bytes p
unfolding bytes_of
put-counters-bytes p s h o =
    let t = state_at s in
    let c = counter_bytes p.state.counters in
    ap (λ (l : List ℕ). take channel_at l ++ c) (sym (back s h o.read))
    ∙ ap (λ (l : List ℕ). l ++ c) (before-counters t (sense_at s) (sized-at s o.read))
    ∙ ap (λ (l : List ℕ). small_bytes t (sense_at s) ++ l) (append_assoc t.copies.pairs t.forms.fcb c)
    ∙ sym (λ i. bytes_of (o.same i) (o.sense i))
