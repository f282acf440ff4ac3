-- Laws of the counters: what each call makes of the pages between them, that calls lead to counters which calls can lead to, and the wrap.
use Rattle.std.proofs.Common.{◌≡◌, ℕ, ◌+◌, ◌≤◌, true, false, sym, refl, arith, le-leb, leb-true}
use borrow.Author.Tests.{eqb-false}
use Rattle.seq.specs.Words.{every}
use Rattle.seq.proofs.Laws.{every-at}
use Rattle.counters.specs.declared.Counters.{Counters}
use Rattle.counters.specs.declared.Tally.{Tally}
use Rattle.counters.specs.declared.Tally.TheVariants.{Transferred, Fused, Stacked, Cancel, Restart}
use Rattle.counters.specs.Counters.{next, between, counters, start_counters, counted, transferred, fused, stacked, cancelled, restarted, tallied, none_between, most_pages, pages_out, most_between, most_count, counters_ok}

pub between-most : (m n : ℕ) → between m n ≤ most_count
between-most m n = omega arith

-- Counters that calls can lead to, each fact by its name; Start's are such.
pub record Reachable (c : Counters) : Type 0 where
  pub channel : c.channel ≤ most_count
  pub transfer : c.transfer ≤ most_count
  pub fuser : c.fuser ≤ most_count
  pub stacker : c.stacker ≤ most_count
  pub fused : between c.fuser c.stacker ≤ between c.transfer c.stacker
  pub transferred : between c.transfer c.stacker ≤ between c.channel c.stacker
  pub most : between c.channel c.stacker ≤ most_pages

pub reachable : (c : Counters) → counters_ok c ≡ true → Reachable c
unfolding counters_ok
reachable c e =
    record {
      channel = leb-true _ _ (every-at 0 _ e);
      transfer = leb-true _ _ (every-at 1 _ e);
      fuser = leb-true _ _ (every-at 2 _ e);
      stacker = leb-true _ _ (every-at 3 _ e);
      fused = leb-true _ _ (every-at 4 _ e);
      transferred = leb-true _ _ (every-at 5 _ e);
      most = leb-true _ _ (every-at 6 _ e);
    }

pub reachable-ok : {c : Counters} → Reachable c → counters_ok c ≡ true
unfolding counters_ok every
reachable-ok r =
    rw (le-leb _ _ r.channel, le-leb _ _ r.transfer, le-leb _ _ r.fuser, le-leb _ _ r.stacker, le-leb _ _ r.fused, le-leb _ _ r.transferred, le-leb _ _ r.most)

-- Two counters are equal exactly where no page is between them. One more page at the earlier puts one between them; one more at the later takes one away.
module _ {m n : ℕ} (hm : m ≤ most_count) (hn : n ≤ most_count) where
  none_equal : between m n ≡ 0 → m ≡ n
  none_equal e = omega arith

  one_less : (between m n ≡ 0 → ⊥) → between m (next n) + 1 ≡ between m n
  one_less e = omega arith

one_more : (m n : ℕ) → between m n ≤ most_pages → between (next m) n ≡ between m n + 1
one_more m n h = omega arith

-- The pages between channel and stacker: a Release puts one there, a report of the stacker takes one away, a cancel takes away those before transfer.
module _ {c : Counters} (r : Reachable c) where
  pub counted-out : pages_out (counted c) ≡ pages_out c + 1
  unfolding counted
  counted-out = one_more c.channel c.stacker r.most

  pub stacked-out : none_between Stacked c ≡ false → pages_out (stacked c) + 1 ≡ pages_out c
  unfolding stacked none_between
  stacked-out e = one_less r.channel r.stacker (λ z. eqb-false c.stacker c.fuser e (sym (none_equal r.fuser r.stacker (omega (arith, z, r.fused, r.transferred)))))

  pub cancelled-out : pages_out (cancelled c) + between c.channel c.transfer ≡ pages_out c
  unfolding cancelled
  cancelled-out = omega (arith, r.channel, r.transfer, r.stacker, r.transferred)

  pub restarted-out : pages_out (restarted c) ≡ 0
  unfolding restarted
  restarted-out = omega (arith, r.stacker)

-- No call leads to counters that calls cannot lead to.
next_fits : (n : ℕ) → next n ≤ most_count
next_fits n = omega arith

-- a counter that is not equal to the one before it has a page before it, seen from the stacker's
less : {m n s : ℕ} → m ≤ most_count → n ≤ most_count → s ≤ most_count → (m ≡ n → ⊥) → between m s ≤ between n s → between m s + 1 ≤ between n s
less hm hn hs d h = omega arith

pub start-ok : counters_ok start_counters ≡ true
unfolding counters_ok every
start-ok = refl

module _ {c : Counters} (r : Reachable c) where
  pub counted-reachable : most_between c ≡ false → Reachable (counted c)
  unfolding counted
  counted-reachable e =
      let out = one_more c.channel c.stacker r.most in
      record {
        channel = next_fits c.channel;
        transfer = r.transfer;
        fuser = r.fuser;
        stacker = r.stacker;
        fused = r.fused;
        transferred = omega (arith, out, r.transferred);
        most = omega (arith, out, r.most, eqb-false (pages_out c) most_pages e);
      }

  transferred-reachable : (c.transfer ≡ c.channel → ⊥) → Reachable (transferred c)
  unfolding transferred
  transferred-reachable d =
      let out = one_more c.transfer c.stacker (omega (arith, r.transferred, r.most)) in
      let room = less r.transfer r.channel r.stacker d r.transferred in
      record {
        channel = r.channel;
        transfer = next_fits c.transfer;
        fuser = r.fuser;
        stacker = r.stacker;
        fused = omega (arith, out, r.fused);
        transferred = omega (arith, out, room);
        most = r.most;
      }

  fused-reachable : (c.fuser ≡ c.transfer → ⊥) → Reachable (fused c)
  unfolding fused
  fused-reachable d =
      let out = one_more c.fuser c.stacker (omega (arith, r.fused, r.transferred, r.most)) in
      let room = less r.fuser r.transfer r.stacker d r.fused in
      record {
        channel = r.channel;
        transfer = r.transfer;
        fuser = next_fits c.fuser;
        stacker = r.stacker;
        fused = omega (arith, out, room);
        transferred = r.transferred;
        most = r.most;
      }

  stacked-reachable : (c.stacker ≡ c.fuser → ⊥) → Reachable (stacked c)
  unfolding stacked
  stacked-reachable d =
      let some : (between c.fuser c.stacker ≡ 0 → ⊥) = λ z. d (sym (none_equal r.fuser r.stacker z)) in
      let fuser = one_less r.fuser r.stacker some in
      let transfer = one_less r.transfer r.stacker (λ z. some (omega (arith, z, r.fused))) in
      let channel = one_less r.channel r.stacker (λ z. some (omega (arith, z, r.fused, r.transferred))) in
      record {
        channel = r.channel;
        transfer = r.transfer;
        fuser = r.fuser;
        stacker = next_fits c.stacker;
        fused = omega (arith, fuser, transfer, r.fused);
        transferred = omega (arith, transfer, channel, r.transferred);
        most = omega (arith, channel, r.most);
      }

  cancelled-reachable : Reachable (cancelled c)
  unfolding cancelled
  cancelled-reachable =
      record {
        channel = r.transfer;
        transfer = r.transfer;
        fuser = r.fuser;
        stacker = r.stacker;
        fused = r.fused;
        transferred = omega arith;
        most = omega (arith, r.transferred, r.most);
      }

  restarted-reachable : Reachable (restarted c)
  unfolding restarted
  restarted-reachable =
      record {
        channel = r.stacker;
        transfer = r.stacker;
        fuser = r.stacker;
        stacker = r.stacker;
        fused = omega arith;
        transferred = omega arith;
        most = omega (arith, r.stacker);
      }

  pub tallied-reachable : (t : Tally) → none_between t c ≡ false → Reachable (tallied t c)
  unfolding tallied none_between
  tallied-reachable Transferred e = transferred-reachable (eqb-false c.transfer c.channel e)
  tallied-reachable Fused e = fused-reachable (eqb-false c.fuser c.transfer e)
  tallied-reachable Stacked e = stacked-reachable (eqb-false c.stacker c.fuser e)
  tallied-reachable Cancel e = cancelled-reachable
  tallied-reachable Restart e = restarted-reachable

-- The wrap: after FFFF comes 0000, at each counter; and the pages between FFFF and 0000 are one.
pub wrap-table :
    (counted (counters 0xFFFF 0xFFFF 0xFFFF 0xFFFF) ≡ counters 0x0000 0xFFFF 0xFFFF 0xFFFF)
    × (transferred (counters 0x0000 0xFFFF 0xFFFF 0xFFFF) ≡ counters 0x0000 0x0000 0xFFFF 0xFFFF)
    × (fused (counters 0x0000 0x0000 0xFFFF 0xFFFF) ≡ counters 0x0000 0x0000 0x0000 0xFFFF)
    × (stacked (counters 0x0000 0x0000 0x0000 0xFFFF) ≡ counters 0x0000 0x0000 0x0000 0x0000)
    × (pages_out (counters 0x0000 0xFFFF 0xFFFF 0xFFFF) ≡ 1)
unfolding counted transferred fused stacked
wrap-table = (refl, refl, refl, refl, refl)
