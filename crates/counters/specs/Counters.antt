-- Document 02, T-02, "Page identifiers": the four counters, in the paper's words. Every definition here is of that request.
use Rattle.std.specs.Prelude.{ℕ, ◌+◌, ◌-◌, ◌%◌, ◌^◌, Bool, false, [], ◌∷◌, ◌==◌, nat_le}
use Rattle.seq.specs.Words.{every}
use Rattle.counters.specs.declared.Counters.{Counters}
use Rattle.counters.specs.declared.Tally.{Tally}
use Rattle.counters.specs.declared.Tally.TheVariants.{Transferred, Fused, Stacked, Cancel, Restart}

-- Two bytes each: after FFFF comes 0000. The pages between two of them, of which n is the later on the paper path, are m less n modulo 65,536.
abbrev pub next : ℕ → ℕ
next n = (n + 1) % 2 ^ 16

abbrev pub between : ℕ → ℕ → ℕ
between m n = (m + (2 ^ 16 - n)) % 2 ^ 16

abbrev pub counters : ℕ → ℕ → ℕ → ℕ → Counters
counters c t f s = record { channel = c; transfer = t; fuser = f; stacker = s }

-- Start puts all at zero.
abbrev pub start_counters : Counters
start_counters = counters 0 0 0 0

-- A Release counts a page into the channel counter; the spooler reports pages passing the other three.
unfoldable pub counted : Counters → Counters
counted c = counters (next c.channel) c.transfer c.fuser c.stacker

unfoldable pub transferred : Counters → Counters
transferred c = counters c.channel (next c.transfer) c.fuser c.stacker

unfoldable pub fused : Counters → Counters
fused c = counters c.channel c.transfer (next c.fuser) c.stacker

unfoldable pub stacked : Counters → Counters
stacked c = counters c.channel c.transfer c.fuser (next c.stacker)

-- A cancel sets channel to transfer; a restart sets channel, transfer and fuser to stacker.
unfoldable pub cancelled : Counters → Counters
cancelled c = counters c.transfer c.transfer c.fuser c.stacker

unfoldable pub restarted : Counters → Counters
restarted c = let s = c.stacker in counters s s s s

-- The five calls by which the spooler keeps the counters: a report for each station, a cancel, a restart.
unfoldable pub tallied : Tally → Counters → Counters
tallied Transferred c = transferred c
tallied Fused c = fused c
tallied Stacked c = stacked c
tallied Cancel c = cancelled c
tallied Restart c = restarted c

-- Refusal 12: a report where the counter equals the one before it, so that no page is between them. Cancel and restart have no such counter.
unfoldable pub none_between : Tally → Counters → Bool
none_between Transferred c = c.transfer == c.channel
none_between Fused c = c.fuser == c.transfer
none_between Stacked c = c.stacker == c.fuser
none_between Cancel c = false
none_between Restart c = false

-- Refusal 13: a Release with 32,767 pages between channel and stacker.
abbrev pub most_pages : ℕ
most_pages = 32767

abbrev pub pages_out : Counters → ℕ
pages_out c = between c.channel c.stacker

abbrev pub most_between : Counters → Bool
most_between c = pages_out c == most_pages

-- Refusal 9: counters that calls can reach: two bytes each; seen from the stacker's, none is ahead of the one before it, and channel is ahead by 32,767
-- at most.
abbrev pub most_count : ℕ
most_count = 65535

unfoldable pub counters_ok : Counters → Bool
counters_ok c =
    let ahead : ℕ → ℕ = λ n. between n c.stacker in
    every
    (nat_le c.channel most_count
    ∷ nat_le c.transfer most_count
    ∷ nat_le c.fuser most_count
    ∷ nat_le c.stacker most_count
    ∷ nat_le (ahead c.fuser) (ahead c.transfer)
    ∷ nat_le (ahead c.transfer) (ahead c.channel)
    ∷ nat_le (ahead c.channel) most_pages
    ∷ [])
