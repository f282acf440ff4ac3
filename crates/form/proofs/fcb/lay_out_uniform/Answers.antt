-- `lay_out_uniform` is the law `layout-uniform`.
use Rattle.std.proofs.Common.{sym, rules}
use Rattle.seq.proofs.Laws.{take_rest}
use Rattle.form.proofs.Uniform.{layout-uniform}
use Rattle.form.proofs.fcb.lay_out_uniform.Goals as goal

pub returns : goal.returns
returns c = let k = c.spacing_of-top.ensures.lines in
    simp (c.any_channel.ensures, c.any_channel-2.ensures, c.from-k.ensures, take_rest, k) (sym (layout-uniform _ _ (search rules)))
