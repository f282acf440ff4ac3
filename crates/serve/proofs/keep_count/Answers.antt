-- Accepted or refused, as the definition has it.
use mathlib.Core.Path.{refl, sym, ap, ◌∙◌}
use mathlib.Core.List.{[]}
use borrow.Author.Rules.{rules}
use Rattle.calls.specs.Core.{stores_of}
use Rattle.calls.specs.Calls.{tally, refusal_of, do_tally, perform}
use Rattle.calls.proofs.Refused.{tally-keeps}
use Rattle.printer.specs.declared.Printer.{Printer}
use Rattle.state.specs.State.{world_at}
use Rattle.state.specs.Host.{shown}
use Rattle.serve.proofs.Put.{put_back, own-counters, tally-alone}
use Rattle.serve.proofs.Steps.{step-accepted, step-left}
use Rattle.serve.proofs.keep_count.Goals as goal

pub put_counters-requires : goal.put_counters-requires
put_counters-requires c =
    own-counters c.args.state.now c.decode-p.ensures [] (stores_of [] [] []) (λ k. do_tally k c.args.which)
    (c.tally.ensures _ []) c.requires.read (tally-alone _)

pub returns-in-Ok : goal.returns-in-Ok
unfolding perform refusal_of
returns-in-Ok c m ok =
    put_back c.args.state.now c.decode-p.ensures [] m (λ k. do_tally k c.args.which)
    (c.tally.ensures m []) c.put_counters.ensures.answer c.put_counters.ensures.state
    ∙ ap shown (step-accepted (world_at c.args.state.now m) (tally c.args.which)
    (c.tally_refusal.ensures _ (ap (λ (p : Printer). p.state.counters) (sym c.decode-p.ensures)) ok) c.in-Ok.is refl)

pub returns-in-Err : goal.returns-in-Err
unfolding refusal_of
returns-in-Err c m ok =
    step-left c.decode-p.ensures m (tally c.args.which) (c.tally_refusal.ensures _ (ap (λ (p : Printer). p.state.counters) (sym c.decode-p.ensures)) ok)
    c.in-Err.is refl (c.refuse.ensures m []) (search rules) c.requires.read (tally-keeps (world_at c.args.state.now m) c.args.which)
