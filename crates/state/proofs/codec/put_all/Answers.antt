-- Each part over its place: nothing of what was there is left.
use mathlib.Core.Path.{◌≡◌, ap, ◌∙◌}
use mathlib.Core.List.{List, ◌++◌}
use Prim.Native.Nat.{ℕ, ◌≤◌}
use native.Mathlib.Omega.{arith}
use lib.ListN.{length, take, drop, length-append}
use lib.Seq.{length-take-le}
use Rattle.printer.specs.Layout.{pairs_at, fcb_at, channel_at}
use Rattle.state.specs.State.{counter_bytes, small_bytes, bytes_of}
use Rattle.state.proofs.Round.{laid}
use Rattle.state.proofs.codec.put_all.Goals as goal

pub returns-clause-state : goal.returns-clause-state
unfolding bytes_of
returns-clause-state c = let p = c.args.step.printer in
    let s₀ : List ℕ = c.args.s.now in
    let s₁ : List ℕ = c.lay_counters.new.s in
    let s₂ : List ℕ = c.lay_fcb.new.s in
    let e₁ : s₁ ≡ take channel_at s₀ ++ counter_bytes p.state.counters = c.lay_counters.ensures in
    let e₂ : s₂ ≡ take fcb_at s₁ ++ (p.state.forms.fcb ++ drop channel_at s₁) = c.lay_fcb.ensures in
    let h₀ : channel_at ≤ length s₀ = omega arith in
    let h₁ : fcb_at ≤ length s₁ = omega (arith, ap length e₁ ∙ length-append (take channel_at s₀) _, length-take-le channel_at s₀ h₀) in
    let h₂ : pairs_at ≤ length s₂ = omega (arith, ap length e₂ ∙ length-append (take fcb_at s₁) _, length-take-le fcb_at s₁ h₁) in
    c.lay_small.ensures
    ∙ ap (λ (l : List ℕ). small_bytes p.state p.sense ++ l)
    (ap (drop pairs_at) c.lay_pairs.ensures
    ∙ laid pairs_at s₂ _ h₂
    ∙ ap (λ (l : List ℕ). p.state.copies.pairs ++ l)
    (ap (drop fcb_at) e₂ ∙ laid fcb_at s₁ _ h₁ ∙ ap (λ (l : List ℕ). p.state.forms.fcb ++ l) (ap (drop channel_at) e₁ ∙ laid channel_at s₀ _ h₀)))
