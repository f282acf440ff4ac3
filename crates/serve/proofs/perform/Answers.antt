-- A case each; that no refusal held gives what it asks for.
use mathlib.Core.Path.{sym, ap, ◌∙◌}
use mathlib.Core.Bool.{◌&&◌}
use lib.Dec.{ltb}
use lib.ListN.{length}
use borrow.Author.Tests.{ltb-false}
use Rattle.seq.specs.Words.{empty}
use Rattle.seq.proofs.Laws.{or_right}
use Rattle.numbers.specs.Sizes.{line_width, legend_size, sense_size}
use Rattle.numbers.specs.Numbers.{row_of}
use Rattle.calls.specs.declared.Command.{Command}
use Rattle.calls.specs.Core.{stores_of}
use Rattle.calls.specs.Commands.{issued, traits_of}
use Rattle.calls.specs.Effects.{refused, do_command}
use Rattle.calls.specs.Calls.{bad_record, check_of}
use Rattle.calls.specs.Premises.{Allowed, Good}
use Rattle.calls.proofs.Accepted.{allowed-by}
use Rattle.state.specs.State.{state_at, core_at}
use Rattle.serve.specs.Served.{Judged}
use Rattle.serve.proofs.Good.{judged-good, judged-fit}
use Rattle.serve.proofs.perform.Goals as goal

pub write-requires : goal.write-requires
write-requires c = let g = (let it : Good (core_at c.args.state.now (stores_of c.args.page.now c.args.legends.now c.args.tables.now)) = judged-good (let it : Judged c.args.state.now (stores_of c.args.page.now c.args.legends.now c.args.tables.now) c.args.form = (c.requires 0).judged in it) in it) in record {
  bytes = (let it : Judged c.args.state.now (stores_of c.args.page.now c.args.legends.now c.args.tables.now) c.args.form = (c.requires 0).judged in it).bytes;
  asks =
      record {
        fit = judged-fit (let it : Judged c.args.state.now (stores_of c.args.page.now c.args.legends.now c.args.tables.now) c.args.form = (c.requires 0).judged in it);
        short =
            ltb-false line_width _ (or_right (empty c.args.sent.now) _
            (ap (λ (k : Command). bad_record k (issued 0 c.args.sent.now c.args.reply.now)) (sym c.in-Write.is) ∙ (let it : Allowed (core_at c.args.state.now (stores_of c.args.page.now c.args.legends.now c.args.tables.now)) c.args.command (issued 0 c.args.sent.now c.args.reply.now) = allowed-by _ _ _ (c.requires 0).free in it).sized));
        page = g.sizes.page;
        tables = g.sizes.tables;
      };
}

pub move_on-requires : goal.move_on-requires
move_on-requires c = record { bytes = (let it : Judged c.args.state.now (stores_of c.args.page.now c.args.legends.now c.args.tables.now) c.args.form = (c.requires 0).judged in it).bytes; asks = judged-fit (let it : Judged c.args.state.now (stores_of c.args.page.now c.args.legends.now c.args.tables.now) c.args.form = (c.requires 0).judged in it) }

pub control-requires : goal.control-requires
unfolding traits_of
control-requires c = let g = (let it : Good (core_at c.args.state.now (stores_of c.args.page.now c.args.legends.now c.args.tables.now)) = judged-good (let it : Judged c.args.state.now (stores_of c.args.page.now c.args.legends.now c.args.tables.now) c.args.form = (c.requires 0).judged in it) in it) in record {
  bytes = (let it : Judged c.args.state.now (stores_of c.args.page.now c.args.legends.now c.args.tables.now) c.args.form = (c.requires 0).judged in it).bytes;
  roomy =
      ap (λ (k : Command). (traits_of k).replies && ltb (length c.args.reply.now) sense_size) (sym c.in-Controls.is)
      ∙ (let it : Allowed (core_at c.args.state.now (stores_of c.args.page.now c.args.legends.now c.args.tables.now)) c.args.command (issued 0 c.args.sent.now c.args.reply.now) = allowed-by _ _ _ (c.requires 0).free in it).roomy;
  resets = record { fixed = g.fixed; legends = g.sizes.legends; tables = g.sizes.tables };
}

pub load-requires : goal.load-requires
unfolding check_of
load-requires c = let g = (let it : Good (core_at c.args.state.now (stores_of c.args.page.now c.args.legends.now c.args.tables.now)) = judged-good (let it : Judged c.args.state.now (stores_of c.args.page.now c.args.legends.now c.args.tables.now) c.args.form = (c.requires 0).judged in it) in it) in let e = sym c.in-Loads.is in record {
  bytes = (let it : Judged c.args.state.now (stores_of c.args.page.now c.args.legends.now c.args.tables.now) c.args.form = (c.requires 0).judged in it).bytes;
  fixed = g.fixed;
  slot = (judged-fit (let it : Judged c.args.state.now (stores_of c.args.page.now c.args.legends.now c.args.tables.now) c.args.form = (c.requires 0).judged in it)).slot;
  check = ap (λ (k : Command). check_of (state_at c.args.state.now) k (issued 0 c.args.sent.now c.args.reply.now)) e ∙ (let it : Allowed (core_at c.args.state.now (stores_of c.args.page.now c.args.legends.now c.args.tables.now)) c.args.command (issued 0 c.args.sent.now c.args.reply.now) = allowed-by _ _ _ (c.requires 0).free in it).sound;
  short = ltb-false legend_size _ (ap (λ (k : Command). bad_record k (issued 0 c.args.sent.now c.args.reply.now)) e ∙ (let it : Allowed (core_at c.args.state.now (stores_of c.args.page.now c.args.legends.now c.args.tables.now)) c.args.command (issued 0 c.args.sent.now c.args.reply.now) = allowed-by _ _ _ (c.requires 0).free in it).sized);
  legends = g.sizes.legends;
  tables = g.sizes.tables;
}

pub returns-in-Write : goal.returns-in-Write
unfolding do_command
returns-in-Write c = λ b. rw c.in-Write.is (c.write.ensures c.args.reply.now c.args.legends.now)

pub returns-in-Move : goal.returns-in-Move
unfolding do_command
returns-in-Move c = λ b. rw c.in-Move.is (c.move_on.ensures c.args.reply.now (stores_of c.args.page.now c.args.legends.now c.args.tables.now))

pub returns-in-Controls : goal.returns-in-Controls
unfolding do_command
returns-in-Controls c = λ b. rw c.in-Controls.is (c.control.ensures c.args.page.now)

pub returns-in-Loads : goal.returns-in-Loads
unfolding do_command
returns-in-Loads c = λ b. rw c.in-Loads.is (c.load.ensures c.args.reply.now c.args.page.now)

pub returns-in-Unlisted : goal.returns-in-Unlisted
unfolding do_command refused row_of
returns-in-Unlisted c = λ b. rw c.in-Unlisted.is (c.refuse.ensures c.args.reply.now (stores_of c.args.page.now c.args.legends.now c.args.tables.now))

pub refuse-requires : goal.refuse-requires
refuse-requires c = (let it : Judged c.args.state.now (stores_of c.args.page.now c.args.legends.now c.args.tables.now) c.args.form = (c.requires 0).judged in it).bytes
