-- Accepted or refused, as the definition has it.
use Prim.Native.Nat.{ℕ}
use mathlib.Core.Path.{◌≡◌, refl, ap, ◌∙◌}
use mathlib.Core.Bool.{true}
use mathlib.Core.List.{List, []}
use borrow.Author.Rules.{rules}
use Rattle.std.specs.Prelude.{Result}
use Rattle.seq.specs.Words.{first_or}
use Rattle.numbers.specs.declared.Refusal.{Refusal}
use Rattle.numbers.specs.declared.Refusal.TheVariants.{Accepted}
use Rattle.calls.specs.Core.{Stores, stores_of}
use Rattle.calls.specs.Contents.{core_ok}
use Rattle.calls.specs.Calls.{release, release_tests, refusal_of, do_release, perform}
use Rattle.calls.proofs.Refused.{release-keeps}
use Rattle.refusals.specs.Verdict.{verdict}
use Rattle.printer.specs.declared.Printer.{Printer}
use Rattle.printer.specs.Worlds.{core_of}
use Rattle.state.specs.State.{core_at, world_at, printer_at}
use Rattle.state.specs.Contents.{sound_bytes}
use Rattle.state.specs.Host.{shown}
use Rattle.state.proofs.Sound.{sound-good}
use Rattle.serve.proofs.Put.{put_back}
use Rattle.serve.proofs.Good.{judged-good}
use Rattle.serve.proofs.Steps.{step-accepted, step-left}
use Rattle.serve.proofs.release_page.Goals as goal

of-call : (s : List ℕ) (m : Stores) {p : Printer} {v : Result Unit Refusal} → p ≡ printer_at s → sound_bytes s m ≡ true
    → (core_ok (core_of p m) ≡ true → v ≡ verdict (first_or Accepted (release_tests (core_of p m)))) → v ≡ verdict (refusal_of (core_at s m) release)
unfolding refusal_of
of-call s m d e found = (rw d at found) (sound-good _ _ e)

pub release-requires : goal.release-requires
release-requires c =
    let g = judged-good c.requires in
    rw c.decode-p.ensures (record { resets = record { fixed = g.fixed; legends = g.sizes.legends; tables = g.sizes.tables }; page = g.sizes.page })

pub returns-in-Ok : goal.returns-in-Ok
unfolding perform
returns-in-Ok c =
    let s = c.args.state.now in
    let m = stores_of c.args.page.now c.args.legends.now c.args.tables.now in
    put_back s c.decode-p.ensures [] m do_release (c.release.ensures []) c.put_all.ensures.answer c.put_all.ensures.state
    ∙ ap shown (step-accepted (world_at s m) release (of-call s m c.decode-p.ensures c.requires.sound (c.release_refusal.ensures m)) c.in-Ok.is refl)

pub returns-in-Err : goal.returns-in-Err
returns-in-Err c =
    let s = c.args.state.now in
    let m = stores_of c.args.page.now c.args.legends.now c.args.tables.now in
    step-left c.decode-p.ensures m release (of-call s m c.decode-p.ensures c.requires.sound (c.release_refusal.ensures m)) c.in-Err.is refl
    (c.refuse.ensures m []) (search rules) c.requires.bytes.read (release-keeps (world_at s m))
