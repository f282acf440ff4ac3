-- Document 01, "How tight the contracts are": for every input one outcome alone meets an export's contract, since that is one equation; and calls that
-- meet theirs one after the other leave what the definitions say of the list.
use Prim.Native.Nat.{ℕ}
use mathlib.Core.Path.{◌≡◌, refl, sym, ap, ◌∙◌}
use mathlib.Core.List.{List, [], ◌∷◌}
use Rattle.paper.specs.Feet.{Sent}
use Rattle.calls.specs.Core.{Stores}
use Rattle.calls.specs.Calls.{Call}
use Rattle.calls.specs.declared.Asked.{Asked}
use Rattle.state.specs.Host.{Called, Held, Told, call_bytes, start_bytes, feet_told, held_of, call_on, bytes_after}

-- Start's, and that of every other call on a printer.
module _ {x y : Called} where
  pub start-tight : (a : Asked) (s : List ℕ) (m : Stores) → x ≡ start_bytes a s m → y ≡ start_bytes a s m → x ≡ y
  start-tight a s m e h = e ∙ sym h

  pub call-tight : (s : List ℕ) (m : Stores) (c : Call) → x ≡ call_bytes s m c → y ≡ call_bytes s m c → x ≡ y
  call-tight s m c e h = e ∙ sym h

-- T-04's.
pub feet-tight : {x y : Told} (t : Sent) → x ≡ feet_told t → y ≡ feet_told t → x ≡ y
feet-tight t e h = e ∙ sym h

-- Calls one after the other, each lent what the one before it left, and each meeting its contract.
pub data Ran : Held → List Call → Held → Type 0 where
  none : {h : Held} → Ran h [] h
  next : {h h' : Held} {c : Call} {cs : List Call} {k : Called} → k ≡ call_on h c → Ran (held_of k) cs h' → Ran h (c ∷ cs) h'

pub ran-leaves : {h h' : Held} {cs : List Call} → Ran h cs h' → h' ≡ bytes_after h cs
unfolding bytes_after
ran-leaves none = refl
ran-leaves (next {cs = cs} e r) = ran-leaves r ∙ ap (λ (k : Called). bytes_after (held_of k) cs) e
