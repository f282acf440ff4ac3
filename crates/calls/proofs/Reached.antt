-- T-02: all counters that get no 9 can be reached: from every Start some list of calls leads to them. So 9 is not too narrow; that it is not too wide is
-- `never-9` (Invariants).
use Prim.Native.Nat.{ℕ, zero, suc, ◌+◌, ◌%◌, ◌^◌, ◌≤◌, ◌<◌}
use mathlib.Core.Path.{◌≡◌, refl, ap, ◌∙◌}
use mathlib.Core.Bool.{true, false, not}
use mathlib.Core.List.{List, [], ◌∷◌, ◌++◌}
use native.Mathlib.Omega.{arith}
use borrow.Author.Tests.{ne_eqb, le-ltb}
use Rattle.seq.proofs.Laws.{clear, pass}
use Rattle.numbers.specs.declared.Refusal.TheVariants.{Accepted, NotListed, BadRecord, PageWaiting, PageStarted, NoPage, TooShort, BadStore, TwoPages, NoneBetween, MostBetween}
use Rattle.numbers.specs.Numbers.{row_of, is_accepted}
use Rattle.numbers.proofs.Laws.{check-pass}
use Rattle.movement.specs.Movement.{entered, spaced, moved, to_top}
use Rattle.counters.specs.declared.Counters.{Counters}
use Rattle.counters.specs.declared.Tally.{Tally}
use Rattle.counters.specs.declared.Tally.TheVariants.{Transferred, Fused, Stacked}
use Rattle.counters.specs.Counters.{next, between, counters, start_counters, counted, transferred, fused, stacked, tallied, none_between, most_pages, most_count, most_between, counters_ok}
use Rattle.counters.proofs.CounterLaws.{reachable}
use Rattle.calls.specs.declared.Fixed.{Fixed}
use Rattle.calls.specs.Core.{Stores, Core, World, started}
use Rattle.calls.specs.Commands.{issued, codes, look_up, decode, control_traits, traits_of}
use Rattle.calls.specs.Contents.{core_ok}
use Rattle.calls.specs.Reset.{blank_sheet, reset_state, reset_stores, fresh}
use Rattle.calls.specs.Effects.{Effect, done, moved_sheet, move_of, written_sheet, written, do_write, completing, do_control, do_command}
use Rattle.calls.specs.Calls.{Call, command, release, tally, check_of, refusal_of, page_counted, emptied, released, do_release, tallying, do_tally, perform, effect, step}
use Rattle.calls.specs.Start.{fixed_by, start_refusal, start_world, start_outcome}
use Rattle.calls.specs.declared.Asked.{Asked}
use Rattle.calls.specs.Premises.{Good, Free}
use Rattle.calls.specs.Lists.{world_after}
use Rattle.calls.proofs.Accepted.{started-world}
use Rattle.calls.proofs.Refused.{accepted-effect, one-page-only, only-first}
use Rattle.calls.proofs.Good.{ok, start-good}
use Rattle.calls.proofs.Changes.{after-append}
use Rattle.calls.proofs.Invariants.{good-call, good-calls}

-- A page: something written on line 1, the page completed, and released.
abbrev write : Call
write = command (issued 0x01 (0x40 ∷ []) [])

abbrev finish : Call
finish = command (issued 0x87 [] [])

abbrev page : List Call
page = write ∷ finish ∷ release ∷ []

-- each is accepted
accepted-write : (k : Core) → core_ok k ≡ true → Free k → is_accepted (refusal_of k write) ≡ true
unfolding decode codes look_up traits_of check_of is_accepted row_of
accepted-write k ok free =
    ap is_accepted
    (only-first k write Accepted
    (pass BadStore (ap not ok) (pass NotListed refl (pass PageWaiting (rw free) (pass BadRecord refl (pass PageStarted refl (check-pass refl (pass TooShort refl (pass TwoPages (le-ltb 1 _ (one-page-only k _)) clear)))))))))

accepted-finish : (k : Core) → core_ok k ≡ true → Free k → is_accepted (refusal_of k finish) ≡ true
unfolding decode codes look_up traits_of control_traits check_of is_accepted row_of
accepted-finish k ok free =
    ap is_accepted
    (only-first k finish Accepted
    (pass BadStore (ap not ok) (pass NotListed refl (pass PageWaiting (rw free) (pass BadRecord refl (pass PageStarted refl (check-pass refl (pass TooShort refl (pass TwoPages (le-ltb 1 _ (one-page-only k _)) clear)))))))))

accepted-release : (k : Core) → core_ok k ≡ true → k.state.sheet.waiting ≡ true → most_between k.state.counters ≡ false → is_accepted (refusal_of k release) ≡ true
unfolding is_accepted row_of
accepted-release k ok waits room = ap is_accepted (only-first k release Accepted (pass BadStore (ap not ok) (pass NoPage (ap not waits) (pass MostBetween room clear))))

accepted-tally : (k : Core) (t : Tally) → core_ok k ≡ true → none_between t k.state.counters ≡ false → is_accepted (refusal_of k (tally t)) ≡ true
unfolding is_accepted row_of
accepted-tally k t ok some = ap is_accepted (only-first k (tally t) Accepted (pass BadStore (ap not ok) (pass NoneBetween some clear)))

-- A printer just reset, with the counters c.
abbrev reset-with : Fixed → Counters → Core
reset-with f c = fresh f (record { blocked = false; counters = c })

-- what an accepted call leaves
left : (k : Core) (c : Call) → is_accepted (refusal_of k c) ≡ true → (effect k c).core ≡ (perform k c).core
left k c e = ap (λ (x : Effect). x.core) (accepted-effect k c e)

page-left : (f : Fixed) (c : Counters) (w : World) → w.core ≡ reset-with f c → Good w.core → most_between c ≡ false
    → (world_after w page).core ≡ reset-with f (counted c)
unfolding world_after step perform decode codes look_up do_command do_write written written_sheet move_of moved spaced entered done moved_sheet do_control completing started to_top do_release released page_counted emptied blank_sheet fresh reset_state reset_stores
page-left f c w e g room =
    let k = reset-with f c in
    let g₀ : Good k = rw e at g in
    let e₁ = left k write (accepted-write k (ok k g₀) refl) in
    let g₁ = good-call k write g₀ in
    let k₁ = (effect k write).core in
    let e₂ = left k₁ finish (accepted-finish k₁ (ok k₁ g₁) (ap (λ (x : Core). x.state.sheet.waiting) e₁)) ∙ ap (λ (x : Core). (perform x finish).core) e₁ in
    let g₂ = good-call k₁ finish g₁ in
    let k₂ = (effect k₁ finish).core in
    let waits = ap (λ (x : Core). x.state.sheet.waiting) e₂ in
    let some = ap (λ (x : Core). most_between x.state.counters) e₂ ∙ room in
    ap (λ (x : Core). (effect (effect (effect x write).core finish).core release).core) e
    ∙ left k₂ release (accepted-release k₂ (ok k₂ g₂) waits some)
    ∙ ap (λ (x : Core). (perform x release).core) e₂

tally-left : (f : Fixed) (c : Counters) (t : Tally) (w : World) → w.core ≡ reset-with f c → Good w.core → none_between t c ≡ false
    → (world_after w (tally t ∷ [])).core ≡ reset-with f (tallied t c)
unfolding world_after step perform do_tally tallying fresh reset_state
tally-left f c t w e g some =
    let k = reset-with f c in
    ap (λ (x : Core). (effect x (tally t)).core) e ∙ left k (tally t) (accepted-tally k t (ok k (rw e at g)) some)

-- Counters that some list of calls on w leads to, the printer being otherwise as a reset leaves it.
pub record Reached (f : Fixed) (w : World) (c : Counters) : Type 0 where
  pub calls : List Call
  pub leaves : (world_after w calls).core ≡ reset-with f c

-- step by step up to m
up_to : (P : ℕ → Type 0) (m : ℕ) → ((n : ℕ) → n < m → P n → P (suc n)) → P 0 → (n : ℕ) → n ≤ m → P n
up_to P m s z zero h = z
up_to P m s z (suc n) h = s n (omega arith) (up_to P m s z n (omega arith))

module _ (f : Fixed) (w : World) (g : Good w.core) where
  by-page : {c : Counters} → most_between c ≡ false → Reached f w c → Reached f w (counted c)
  by-page {c} room r =
      let xs = r.calls in
      record { calls = xs ++ page; leaves = ap (λ (v : World). v.core) (after-append w xs page) ∙ page-left f c (world_after w xs) r.leaves (good-calls w xs g) room }

  by-tally : {c : Counters} (t : Tally) → none_between t c ≡ false → Reached f w c → Reached f w (tallied t c)
  by-tally {c} t some r =
      let xs = r.calls in
      record { calls = xs ++ (tally t ∷ []); leaves = ap (λ (v : World). v.core) (after-append w xs (tally t ∷ [])) ∙ tally-left f c t (world_after w xs) r.leaves (good-calls w xs g) some }

  -- a page through all stations, and so all four at any number
  through : (n : ℕ) → n ≤ most_count → Reached f w (counters n n n n) → Reached f w (counters (next n) (next n) (next n) (next n))
  unfolding counted tallied transferred fused stacked none_between
  through n h r =
      let other : (n ≡ next n → ⊥) = λ e. omega (arith, e) in
      by-tally Stacked (ne_eqb _ _ other) (by-tally Fused (ne_eqb _ _ other) (by-tally Transferred (ne_eqb _ _ other) (by-page (ne_eqb (between n n) most_pages (λ e. omega (arith, e))) r)))

  all_alike : Reached f w start_counters → (n : ℕ) → n ≤ most_count → Reached f w (counters n n n n)
  all_alike =
      up_to (λ n. Reached f w (counters n n n n)) most_count
      (λ n h r. let up : next n ≡ suc n = omega arith in rw (← up) (through n (omega arith) r))

  -- n pages on from s
  abbrev on : ℕ → ℕ → ℕ
  on s n = (s + n) % 2 ^ 16

  next-on : (s n : ℕ) → next (on s n) ≡ on s (suc n)
  next-on s n = omega arith

  none-on : (s : ℕ) → s ≤ most_count → on s 0 ≡ s
  none-on s h = omega arith

  released-on : (s : ℕ) → s ≤ most_count → Reached f w (counters s s s s) → (n : ℕ) → n ≤ most_pages → Reached f w (counters (on s n) s s s)
  unfolding counted
  released-on s hs r =
      up_to (λ n. Reached f w (counters (on s n) s s s)) most_pages
      (λ n h q. rw (← next-on s n) (by-page (ne_eqb (between (on s n) s) most_pages (λ e. omega (arith, e))) q)) (rw (none-on s hs) r)

  transferred-on : (s c : ℕ) → s ≤ most_count → c ≤ most_pages → Reached f w (counters (on s c) s s s) → (n : ℕ) → n ≤ c
      → Reached f w (counters (on s c) (on s n) s s)
  unfolding tallied transferred none_between
  transferred-on s c hs hc r =
      up_to (λ n. Reached f w (counters (on s c) (on s n) s s)) c
      (λ n h q. rw (← next-on s n) (by-tally Transferred (ne_eqb (on s n) (on s c) (λ e. omega (arith, e))) q)) (rw (none-on s hs) r)

  fused-on : (s c t : ℕ) → s ≤ most_count → t ≤ most_pages → Reached f w (counters (on s c) (on s t) s s) → (n : ℕ) → n ≤ t
      → Reached f w (counters (on s c) (on s t) (on s n) s)
  unfolding tallied fused none_between
  fused-on s c t hs ht r =
      up_to (λ n. Reached f w (counters (on s c) (on s t) (on s n) s)) t
      (λ n h q. rw (← next-on s n) (by-tally Fused (ne_eqb (on s n) (on s t) (λ e. omega (arith, e))) q)) (rw (none-on s hs) r)

  back : (x s : ℕ) → x ≤ most_count → s ≤ most_count → on s (between x s) ≡ x
  back x s hx hs = omega arith

  all-reached : Reached f w start_counters → (c : Counters) → counters_ok c ≡ true → Reached f w c
  all-reached r₀ c e =
      let r = reachable c e in
      let s = c.stacker in
      let n = between c.channel s in
      let t = between c.transfer s in
      let u = between c.fuser s in
      let r₁ = released-on s r.stacker (all_alike r₀ s r.stacker) n r.most in
      let r₂ = transferred-on s n r.stacker r.most r₁ t r.transferred in
      let r₃ = fused-on s n t r.stacker (omega (arith, r.transferred, r.most)) r₂ u r.fused in
      rw (back c.channel s r.channel r.stacker, back c.transfer s r.transfer r.stacker, back c.fuser s r.fuser r.stacker) at r₃

-- T-02: from every accepted Start some list of calls leads to any counters that get no 9.
pub every-reached : (a : Asked) (m : Stores) → is_accepted (start_refusal a m) ≡ true → (c : Counters) → counters_ok c ≡ true
    → Reached (fixed_by a) (start_outcome a m).world c
unfolding start_world world_after
every-reached a m e c h =
    rw (started-world a m e) (all-reached (fixed_by a) (start_world a) (start-good a m e) (record { calls = []; leaves = refl }) c h)
