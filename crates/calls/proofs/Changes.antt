-- What every call leaves as it was. All that a call may do to the core is one of ten changes, or several of them in turn: what each of them
-- preserves, every list of calls preserves. The one case analysis over the commands for all invariants stands here.
use Prim.Native.Nat.{ℕ, ◌≤◌}
use mathlib.Core.Path.{◌≡◌, refl, sym, ap, ◌∙◌}
use mathlib.Core.Bool.{Bool, true, false, true≢false}
use mathlib.Core.List.{List, [], ◌∷◌, ◌++◌}
use mathlib.Core.Logic.{◌⊎◌, inl, inr}
use lib.ListN.{length}
use lib.Dec.{eqb, leb, ltb}
use borrow.Author.Tests.{leb-true, ltb-false}
use Rattle.seq.specs.Words.{all, empty}
use Rattle.std.specs.Prelude.{Ok}
use Rattle.seq.proofs.Laws.{and_left, and_right, or_right, cond_has}
use Rattle.numbers.specs.Sizes.{line_width, legend_size}
use Rattle.numbers.specs.Numbers.{row_of, is_accepted}
use Rattle.movement.specs.declared.Motion.{Motion}
use Rattle.movement.specs.declared.Moved.{Moved}
use Rattle.movement.specs.Movement.{to_top}
use Rattle.movement.proofs.MovementLaws.{Went}
use Rattle.counters.specs.declared.Tally.{Tally}
use Rattle.counters.specs.Counters.{none_between, most_between}
use Rattle.calls.specs.declared.Load.{Load}
use Rattle.calls.specs.declared.Control.TheVariants.{NoOp, SenseIo, Initialize, Clear, Block, Allow, Select}
use Rattle.calls.specs.declared.Command.{Command}
use Rattle.calls.specs.declared.Command.TheVariants.{Write, Move, Controls, Loads, Unlisted}
use Rattle.calls.specs.Core.{Core, World, with_state, with_blocked, with_slots, lines_now, P, started}
use Rattle.calls.specs.Commands.{Issued, codes, look_up, skips, decode, control_traits, traits_of}
use Rattle.calls.specs.Contents.{core_ok}
use Rattle.calls.specs.Reset.{blank_sheet, no_cells, reset}
use Rattle.calls.specs.Effects.{Effect, refused, done, moved_core, move_of, at_once, do_move, written_sheet, written, do_write, load_check, slot_selected, loaded, do_load, completing, do_control, do_command}
use Rattle.calls.specs.Calls.{Call, command, compose, release, tally, check_of, refusal_of, do_compose, page_counted, emptied, released, do_release, tallying, do_tally, perform, effect, step}
use Rattle.calls.specs.Premises.{Good, Allowed, Free}
use Rattle.calls.specs.Lists.{world_after}
use Rattle.calls.proofs.Accepted.{allowed, release-room, tally-room}
use Rattle.calls.proofs.Refused.{bad-store, by-outcome}
use Rattle.calls.proofs.Answers.{was_free}
use Rattle.calls.proofs.Good.{good, good-write, good-count, good-empty, move-went, at-once-went}

-- Calls after calls.
pub after-append : (w : World) (xs ys : List Call) → world_after w (xs ++ ys) ≡ world_after (world_after w xs) ys
unfolding world_after
after-append w [] ys = refl
after-append w (x ∷ xs) ys = after-append (step w x).world xs ys

-- A reset finds nothing on the page: it is not started, or was emptied just before.
abbrev pub Unused : Core → Type 0
Unused k = (started k.state.sheet ≡ false) ⊎ (k.stores.page ≡ no_cells)

-- Q survives each of the ten changes, which come with what holds where they are done.
pub record Survives (Q : Core → Type 0) : Type 0 where
  pub write : {k : Core} (r : List ℕ) → Good k → Free k → length r ≤ line_width → Q k → Q (written k r)
  pub move : {k : Core} (m : Moved) → Good k → Free k → Went (P k.state) k.state.sheet.line m → Q k → Q (moved_core false k m)
  pub complete : {k : Core} (due : Bool) → Good k → Free k → Q k → Q (moved_core due k to_top)
  pub reset : {k : Core} → Good k → Free k → Unused k → Q k → Q (reset k)
  pub block : {k : Core} (b : Bool) → Good k → Q k → Q (with_state k (with_blocked k.state b))
  pub select : {k : Core} (n : ℕ) → Good k → n ≤ 3 → Q k → Q (with_state k (with_slots k.state (slot_selected k.state.slots n)))
  pub load : {k : Core} (l : Load) (r : List ℕ) → Good k → started k.state.sheet ≡ false → load_check k.state l r ≡ Ok tt → length r ≤ legend_size
      → Q k → Q (loaded k l r)
  pub count : {k : Core} → Good k → most_between k.state.counters ≡ false → Q k → Q (page_counted k)
  pub empty : {k : Core} → Good k → Q k → Q (emptied k)
  pub tally : {k : Core} (t : Tally) → Good k → none_between t k.state.counters ≡ false → Q k → Q (tallying k t)

-- Select names one of four: a computed test of the table of codes.
small : Command → Bool
small (Write m) = true
small (Move m) = true
small (Controls NoOp) = true
small (Controls SenseIo) = true
small (Controls Initialize) = true
small (Controls Clear) = true
small (Controls Block) = true
small (Controls Allow) = true
small (Controls (Select n)) = leb n 3
small (Loads l) = true
small Unlisted = true

look-small : (b : ℕ) (cs : List (ℕ × Command)) → all (λ c. small c.1) cs ≡ true → small (look_up cs b) ≡ true
unfolding look_up small
look-small b [] e = refl
look-small b (c ∷ cs) e =
    cond_has (λ (x : Command). small x ≡ true) (eqb c.0 b) (λ t. and_left (small c.1) _ e) (λ t. look-small b cs (and_right (small c.1) _ e))

decode-small : (b : ℕ) → small (decode b) ≡ true
unfolding decode small codes
decode-small b =
    cond_has (λ (x : Command). small x ≡ true) (skips b 1) (λ t. refl)
    (λ t. cond_has (λ (x : Command). small x ≡ true) (skips b 3) (λ t. refl) (λ t. look-small b codes refl))

-- Only contents that a printer can have get an accepted call.
pub accepted-good : (k : Core) (c : Call) → is_accepted (refusal_of k c) ≡ true → Good k
unfolding is_accepted row_of
accepted-good k c e = go (core_ok k) refl
  where
    go : (t : Bool) → core_ok k ≡ t → Good k
    go true h = good k h
    go false h = absurd (true≢false (sym e ∙ ap is_accepted (bad-store k c h)))

-- The record of a write that is allowed fits a line; and what holds of a page completed and of one not started holds after Clear and Initialize.
pub write-fits : {k : Core} {m : Motion} {i : Issued} → Allowed k (Write m) i → length i.sent ≤ line_width
write-fits {i = i} a = ltb-false line_width (length i.sent) (or_right (empty i.sent) (ltb line_width (length i.sent)) a.sized)

pub completing-has : (Q : Core → Type 0) (k k' : Core) (due : Bool) → Q (moved_core due k to_top) → (started k.state.sheet ≡ false → Q k') → Q (completing k due k').core
unfolding completing done
completing-has Q k k' due h h' = cond_has (λ (e : Effect). Q e.core) (started k.state.sheet) (λ t. h) h'

module _ {Q : Core → Type 0} (q : Survives Q) where
  by-completing : {k k' : Core} (due : Bool) → Good k → Free k → Q k → (started k.state.sheet ≡ false → Q k') → Q (completing k due k').core
  by-completing {k} {k'} due g f h h' = completing-has Q k k' due (q.complete due g f h) h'

  by-command : (k : Core) (c : Command) (i : Issued) → small c ≡ true → Allowed k c i → Good k → Q k → Q (do_command k c i).core
  unfolding do_command do_control do_write do_move do_load done written written_sheet lines_now check_of traits_of control_traits refused small
  by-command k (Write m) i s a g h =
      let f = was_free refl a.free in
      let fits = write-fits a in
      q.move (move_of k.state m) (good-write i.sent g f fits) f (move-went m g) (q.write i.sent g f fits h)
  by-command k (Move m) i s a g h = q.move (at_once k.state m) g (was_free refl a.free) (at-once-went m g) h
  by-command k (Controls NoOp) i s a g h = h
  by-command k (Controls SenseIo) i s a g h = h
  by-command k (Controls Initialize) i s a g h =
      let f = was_free refl a.free in
      by-completing true g f h (λ u. q.reset g f (inl u) h)
  by-command k (Controls Clear) i s a g h = by-completing false g (was_free refl a.free) h (λ u. h)
  by-command k (Controls Block) i s a g h = q.block true g h
  by-command k (Controls Allow) i s a g h = q.block false g h
  by-command k (Controls (Select n)) i s a g h = q.select n g (leb-true n 3 s) h
  by-command k (Loads l) i s a g h = q.load l i.sent g a.unstarted a.sound (ltb-false legend_size (length i.sent) a.sized) h
  by-command k Unlisted i s a g h = h

  by-release : {k : Core} → Good k → most_between k.state.counters ≡ false → Q k → Q (released k)
  unfolding released emptied blank_sheet
  by-release {k} g room h =
      let g' = good-count g room in
      let h' = q.empty g' (q.count g room h) in
      cond_has Q k.state.sheet.due (λ t. q.reset (good-empty g') refl (inr refl) h') (λ t. h')

  by-perform : (k : Core) (c : Call) → is_accepted (refusal_of k c) ≡ true → Q k → Q (perform k c).core
  unfolding perform do_compose do_release do_tally
  by-perform k (command i) e h = by-command k (decode i.byte) i (decode-small i.byte) (allowed k i e) (accepted-good k (command i) e) h
  by-perform k (compose n out) e h = h
  by-perform k release e h = by-release (accepted-good k release e) (release-room k e) h
  by-perform k (tally t) e h = q.tally t (accepted-good k (tally t) e) (tally-room k t e) h

  -- One call, and a list of calls.
  pub preserved : (k : Core) (c : Call) → Q k → Q (effect k c).core
  unfolding refused
  preserved k c h = by-outcome (λ (e : Effect). Q e.core) k c (λ e. by-perform k c e h) (λ e. h)

  pub preserved-list : (w : World) (cs : List Call) → Q w.core → Q (world_after w cs).core
  unfolding world_after step
  preserved-list w [] h = h
  preserved-list w (c ∷ cs) h = preserved-list (step w c).world cs (preserved w.core c h)
