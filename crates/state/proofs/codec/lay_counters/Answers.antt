-- The eight bytes over their place, which is the last.
use Prim.Native.Nat.{ℕ, ◌-◌, ◌/◌, ◌%◌, ◌<◌}
use mathlib.Core.Path.{◌≡◌}
use native.Mathlib.Omega.{arith}
use lib.ListN.{drop, length-drop, drop_of_length-le}
use Rattle.printer.specs.Layout.{channel_at, state_size}
use Rattle.state.proofs.codec.lay_counters.Goals as goal

high : (n : ℕ) → n < 65536 → n / 256 % 256 ≡ n / 256
high n h = omega arith

pub returns : goal.returns
returns c = let n = c.args.counters in
    rw (
      c.copy_from_slice.ensures.after,
      c.as_flattened.ensures.value,
      c.to_be_bytes.ensures,
      c.to_be_bytes-2.ensures,
      c.to_be_bytes-3.ensures,
      c.to_be_bytes-4.ensures,
      high n.channel (omega arith),
      high n.transfer (omega arith),
      high n.fuser (omega arith),
      high n.stacker (omega arith),
      drop_of_length-le (drop channel_at c.args.s.now) {i = state_size - channel_at} (simp length-drop (omega arith)),
    )
