-- Document 01, "Commands". The load codes are those of the manual's command set table (GA26-1635-2). Every definition here is of that
-- section, except the first.
use Rattle.std.specs.Prelude.{ℕ, ◌/◌, ◌%◌, Bool, true, false, cond, ◌&&◌, List, [], ◌∷◌, eqb, leb}
use Rattle.movement.specs.declared.Motion.TheVariants.{Space, Skip}
use Rattle.calls.specs.declared.Load.TheVariants.{Fcb, TranslateTable, CopyModification, OverlaySequence, CopyNumber}
use Rattle.calls.specs.declared.Control.{Control}
use Rattle.calls.specs.declared.Control.TheVariants.{NoOp, SenseIo, Initialize, Clear, Block, Allow, Select}
use Rattle.calls.specs.declared.Command.{Command}
use Rattle.calls.specs.declared.Command.TheVariants.{Write, Move, Controls, Loads, Unlisted}

-- Calls: a command as it is issued: its byte, its record, and the buffer for its reply.
pub record Issued : Type 0 where
  pub byte : ℕ
  pub sent : List ℕ
  pub reply : List ℕ

abbrev pub issued : ℕ → List ℕ → List ℕ → Issued
issued b r reply = record { byte = b; sent = r; reply = reply }

-- The bytes that are listed one by one: writes, immediate spaces, the controls, the five loads.
unfoldable pub codes : List (ℕ × Command)
codes =
    (0x01, Write (Space 0)) ∷ (0x09, Write (Space 1)) ∷ (0x11, Write (Space 2)) ∷ (0x19, Write (Space 3))
    ∷ (0x0B, Move (Space 1)) ∷ (0x13, Move (Space 2)) ∷ (0x1B, Move (Space 3))
    ∷ (0x03, Controls NoOp) ∷ (0x04, Controls SenseIo) ∷ (0x37, Controls Initialize) ∷ (0x87, Controls Clear)
    ∷ (0x73, Controls Block) ∷ (0x7B, Controls Allow)
    ∷ (0x47, Controls (Select 0)) ∷ (0x57, Controls (Select 1)) ∷ (0x67, Controls (Select 2)) ∷ (0x77, Controls (Select 3))
    ∷ (0x63, Loads Fcb) ∷ (0x83, Loads TranslateTable) ∷ (0x35, Loads CopyModification) ∷ (0x43, Loads OverlaySequence)
    ∷ (0x23, Loads CopyNumber)
    ∷ []

unfoldable pub look_up : List (ℕ × Command) → ℕ → Command
look_up [] b = Unlisted
look_up (c ∷ cs) b = let rest = look_up cs b in cond (eqb c.0 b) c.1 rest

-- Skips, with nnnn from 1 to 12: a write is 1nnnn001, immediate is 1nnnn011. So 83, where nnnn is 0, is no skip: it is the translate load.
abbrev pub nnnn : ℕ → ℕ
nnnn b = b / 8 % 16

abbrev pub skips : ℕ → ℕ → Bool
skips b low = eqb (b / 128) 1 && eqb (b % 8) low && leb 1 (nnnn b) && leb (nnnn b) 12

unfoldable pub decode : ℕ → Command
decode b = cond (skips b 1) (Write (Skip (nnnn b))) (cond (skips b 3) (Move (Skip (nnnn b))) (look_up codes b))

-- The controls that other sections single out: No-Op and Sense are quiet (number 4 and the setting of the sense pass them by), Sense
-- replies, Clear and Initialize complete a started page, Initialize resets.
pub record Traits : Type 0 where
  pub quiet : Bool
  pub replies : Bool
  pub completes : Bool
  pub resets : Bool

abbrev traits : Bool → Bool → Bool → Bool → Traits
traits q p c r = record { quiet = q; replies = p; completes = c; resets = r }

unfoldable pub control_traits : Control → Traits
control_traits NoOp = traits true false false false
control_traits SenseIo = traits true true false false
control_traits Clear = traits false false true false
control_traits Initialize = traits false false true true
control_traits Block = traits false false false false
control_traits Allow = traits false false false false
control_traits (Select n) = traits false false false false

unfoldable pub traits_of : Command → Traits
traits_of (Write m) = traits false false false false
traits_of (Move m) = traits false false false false
traits_of (Controls c) = control_traits c
traits_of (Loads l) = traits false false false false
traits_of Unlisted = traits false false false false

-- Bytes that are no command, and the loads.
abbrev pub is_unlisted : Command → Bool
is_unlisted (Write m) = false
is_unlisted (Move m) = false
is_unlisted (Controls c) = false
is_unlisted (Loads l) = false
is_unlisted Unlisted = true

abbrev pub is_load : Command → Bool
is_load (Write m) = false
is_load (Move m) = false
is_load (Controls c) = false
is_load (Loads l) = true
is_load Unlisted = false
