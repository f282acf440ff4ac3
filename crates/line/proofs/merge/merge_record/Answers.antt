-- Turn i merges the code of byte i with cell i. Only where one was unprintable are the positions told.
use mathlib.Core.Path.{◌≡◌, refl, sym, ap, ◌∙◌}
use mathlib.Core.Bool.{Bool, cond, ◌||◌}
use Prim.Native.Nat.{◌<◌}
use lib.ListN.{length, get_or, length-map}
use borrow.Author.Rules.{rules}
use Rattle.seq.proofs.Loops.{get_or-map, any-more, any-all}
use Rattle.line.specs.Line.{unprintable, code_of, translated, told}
use Rattle.line.specs.Codes.{codes}
use Rattle.line.proofs.CellLaws.{code-found, printable-none}
use Rattle.line.proofs.LineLaws.{length-translated}
use Rattle.line.proofs.MergeLaws.{merged-none, merged-more, merged-all}
use Rattle.line.proofs.merge.merge_record.Goals.{then-stands, else-stands}
use Rattle.line.proofs.merge.merge_record.Goals as goal

pub loop-i-init : goal.loop-i-init
loop-i-init c = (merged-none _ _, refl)

pub loop-i-preserved : goal.loop-i-preserved
unfolding translated
loop-i-preserved c = let l = c.loop-i in
    let a = c.args in
    let ps = a.pitches in
    let t = a.table.now in
    let r = a.sent.now in
    let here : l.i < length r = search rules in
    let chosen : c.if-stands.new ≡ cond c.is_bad-stands.result a.other c.entry-code.result =
    elim c.if-stands.branch [
      | then-stands w ↦ w.new-is ∙ sym (ap (λ (b : Bool). cond b a.other c.entry-code.result) w.if-stands.true)
      | else-stands w ↦ w.new-is ∙ sym (ap (λ (b : Bool). cond b a.other c.entry-code.result) w.if-stands.false)
    ] in
    let code = code-found ps t (get_or r l.i 0) c.entry-code.ensures c.is_bad-stands.ensures c.requires.other_value chosen in
    let bad = c.is_bad-stands.ensures ∙ ap (unprintable ps) (c.entry-code.ensures ∙ sym (get_or-map (λ b. get_or t b 0) 0 0 l.i r here)) in (
      merged-more _ _ (rw (length-translated ps t r) (search rules)) (rw (length-translated ps t r) here) l.invariant.0
          (code ∙ sym (get_or-map (code_of ps t) 0 0 l.i r here)) c.merge_at-clash.ensures.cells c.merge_at-clash.ensures.clash,
      (λ j. l.invariant.1 j || bad j) ∙ any-more (unprintable ps) 0 l.i (codes t r) (rw (length-map r (λ b. get_or t b 0)) here),
    )

pub returns-then-bad : goal.returns-then-bad
returns-then-bad c = let l = c.loop-i in
    let a = c.args in
    let ps = a.pitches in
    let t = a.table.now in
    let r = a.sent.now in
    let all = merged-all _ _ (rw (length-translated ps t r) (search rules)) (rw (length-translated ps t r) (search rules)) l.invariant.0 in
    record { cells = all.0; found = λ j. record { unprintables = c.tell-unprintables.ensures j; collision = all.1 j } }

pub returns-else-bad : goal.returns-else-bad
returns-else-bad c = let l = c.loop-i in
    let a = c.args in
    let ps = a.pitches in
    let t = a.table.now in
    let r = a.sent.now in
    let all = merged-all _ _ (rw (length-translated ps t r) (search rules)) (rw (length-translated ps t r) (search rules)) l.invariant.0 in
    let none = sym (any-all (unprintable ps) l.i (codes t r) (rw (length-map r (λ b. get_or t b 0)) (search rules))) ∙ sym l.invariant.1 ∙ c.if-bad.false in
    record { cells = all.0; found = λ j. record { unprintables = ap told (sym (printable-none ps t r none)) j; collision = all.1 j } }
