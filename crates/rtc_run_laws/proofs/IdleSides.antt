-- Where a poll answered a timeout that is later than each moment which the peer took, nothing is due for its channels.
use Rattle.std.proofs.Common.{◌≡◌, ◌∙◌, ◌+◌, ◌<◌, ◌≤◌, nat_lt, ℕ, Bool, true, false, Option, Some, None, refl, sym, ap, subst, arith}
use Rattle.std.specs.Prelude.{◌-◌, ◌^◌, if◌then◌else◌, max, min}
use Rattle.std.specs.List.{list_any}
use Rattle.rtc_parts.specs.declared.reason.Reason.{Reason}
use Rattle.rtc_parts.specs.declared.reason.Reason.TheVariants.{Channel, Sctp, Stats as StatsReason}
use Rattle.rtc_assoc_state.specs.PlainMeaning.{plain_meaning}
use Rattle.rtc_parts.specs.Draws.{Draws}
use Rattle.rtc_sctp.specs.Calls.{attached_wake, earlier_of, streams_wake}
use Rattle.rtc_sctp.specs.Streams.{is_attached}
use Rattle.rtc_sctp_entries.specs.Entries.{is_retrying}
use Rattle.rtc_channels.specs.Openings.{channels_wake}
use Rattle.rtc_peer_core.specs.declared.phase.Phase.TheVariants.{Alive, Closed}
use Rattle.rtc_peer_transport.specs.Deadlines.{least_deadline, sooner, transport_deadline, wake_moment, wanted_for}
use Rattle.rtc_peer_transport.specs.Statistics.{stats_wake}
use Rattle.rtc_peer_laws.proofs.DrainedPolls.{Ends, AtRest, Waiting, poll_ends}
use Rattle.rtc_run_laws.specs.PlainPairs.{PlainPolled, plain_over}
use Rattle.rtc_run_laws.proofs.RestingSides.{PolledLast}

-- the sooner of two is no later than either
sooner_first : (n : ℕ) (a : ℕ × Reason) (b : Option (ℕ × Reason)) → a.0 ≤ n → (sooner a b).0 ≤ n
sooner_first n a None e = e
sooner_first n a (Some b) e = by (nat_lt b.0 a.0) refl
  where
    by : (c : Bool) → nat_lt b.0 a.0 ≡ c → (if c then b else a).0 ≤ n
    by true l = grind (arith, l, e)
    by false l = e

sooner_other : (n w : ℕ) (a : ℕ × Reason) (reason : Reason) (wake : Option ℕ) → wake ≡ Some w → w ≤ n → (sooner a (wanted_for reason wake)).0 ≤ n
sooner_other n w a reason wake is e =
    subst (λ (x : Option ℕ). (sooner a (wanted_for reason x)).0 ≤ n) (sym is) (by (nat_lt w a.0) refl)
  where
    by : (c : Bool) → nat_lt w a.0 ≡ c → (if c then (w, reason) else a).0 ≤ n
    by true l = e
    by false l = grind (arith, l, e)

-- a timeout that is later than the greatest moment and than a wake is none that was waited for
too_late : (greatest least n moment : ℕ) → least ≤ n → greatest < moment → n < moment → moment ≡ max greatest least → ⊥
too_late greatest least n moment e g l is = grind (arith, e, g, l, is)

-- the earlier of two is no later than the second
record Earlier (x : Option ℕ) (r : ℕ) : Type 0 where
  moment : ℕ
  is : earlier_of x (Some r) ≡ Some moment
  within : moment ≤ r

least_within : (a r : ℕ) → min a r ≤ r
least_within a r = grind (arith)

earlier_at : (x : Option ℕ) (r : ℕ) → Earlier x r
earlier_at None r = record { moment = r; is = refl; within = omega arith }
earlier_at (Some a) r = record { moment = min a r; is = refl; within = least_within a r }

first_within : (a b : ℕ) → min a b ≤ a
first_within a b = grind (arith)

none_before : (n : ℕ) → 0 ≤ n
none_before n = omega arith

module _ {N : Type 0} (draws : Draws N) where
  -- what is due at once, and when an opening is tried again
  due_now : (q : PlainPolled N) → channels_wake plain_meaning q.core.channels q.core.sctp ≡ Some 0 → (least_deadline (plain_over draws) q).0 ≤ 0
  due_now q due =
      sooner_first 0
      (sooner (sooner (transport_deadline (plain_over draws) q) (wanted_for Sctp (streams_wake plain_meaning q.core.sctp)))
      (wanted_for Channel (channels_wake plain_meaning q.core.channels q.core.sctp)))
      (wanted_for StatsReason (stats_wake q.transport.stats))
      (sooner_other 0 0 (sooner (transport_deadline (plain_over draws) q) (wanted_for Sctp (streams_wake plain_meaning q.core.sctp))) Channel
      (channels_wake plain_meaning q.core.channels q.core.sctp) due (none_before 0))

  streams_by : (n w : ℕ) (q : PlainPolled N) → streams_wake plain_meaning q.core.sctp ≡ Some w → w ≤ n → (least_deadline (plain_over draws) q).0 ≤ n
  streams_by n w q is within =
      sooner_first n
      (sooner (sooner (transport_deadline (plain_over draws) q) (wanted_for Sctp (streams_wake plain_meaning q.core.sctp)))
      (wanted_for Channel (channels_wake plain_meaning q.core.channels q.core.sctp)))
      (wanted_for StatsReason (stats_wake q.transport.stats))
      (sooner_first n (sooner (transport_deadline (plain_over draws) q) (wanted_for Sctp (streams_wake plain_meaning q.core.sctp)))
      (wanted_for Channel (channels_wake plain_meaning q.core.channels q.core.sctp))
      (sooner_other n w (transport_deadline (plain_over draws) q) Sctp (streams_wake plain_meaning q.core.sctp) is within))

  retried_by : (q : PlainPolled N) → list_any is_retrying q.core.sctp.entries ≡ true
      → (least_deadline (plain_over draws) q).0 ≤ q.core.sctp.last + 500_000_000
  retried_by q retries =
      let r : ℕ = min (q.core.sctp.last + 500_000_000) (2 ^ 64 - 1) in
      let x : Option ℕ = attached_wake plain_meaning (is_attached q.core.sctp.state) q.core.sctp.association in
      let e = earlier_at x r in
      streams_by (q.core.sctp.last + 500_000_000) e.moment q
      (ap (λ (b : Bool). earlier_of x (if b then Some r else None)) retries ∙ e.is)
      (through e.moment r (q.core.sctp.last + 500_000_000) e.within (first_within (q.core.sctp.last + 500_000_000) (2 ^ 64 - 1)))
    where
      through : (a b c : ℕ) → a ≤ b → b ≤ c → a ≤ c
      through a b c h k = omega (arith, h, k)

  -- a poll that answered a timeout waited for no earlier one
  ends_late : (n moment : ℕ) (q : PlainPolled N) → Ends (plain_over draws) moment q → q.core.phase ≡ Alive → q.core.greatest < moment → n < moment
      → (least_deadline (plain_over draws) q).0 ≤ n → ⊥
  ends_late n moment q (AtRest closed is reason) alive greatest later within = let clash : Alive ≡ Closed = sym alive ∙ closed in cc
  ends_late n moment q (Waiting last visited visit live complete is left) alive greatest later within =
      too_late q.core.greatest (least_deadline (plain_over draws) q).0 n moment within greatest later
      (is ∙ sym (ap (λ (x : PlainPolled N). wake_moment (plain_over draws) x) left))

  wake_cases : (w : Option ℕ) (due : Bool) → w ≡ (if due then Some 0 else None) → (w ≡ Some 0 → ⊥) → w ≡ None
  wake_cases w true is none = absurd (none is)
  wake_cases w false is none = is

  above_none : (n m : ℕ) → n < m → 0 < m
  above_none n m h = omega (arith, h)

  module _ (is_so : ℕ → Type 0) (q : PlainPolled N) (last : PolledLast (plain_over draws) is_so q) (alive : q.core.phase ≡ Alive)
      (greatest : q.core.greatest < last.moment) where
    ends : Ends (plain_over draws) last.moment q
    ends = poll_ends (plain_over draws) last.before.core.phase last.moment last.before q refl last.polled

    pub none_due : channels_wake plain_meaning q.core.channels q.core.sctp ≡ None
    none_due =
        wake_cases (channels_wake plain_meaning q.core.channels q.core.sctp) _ refl
        (λ due. ends_late 0 last.moment q ends alive greatest (above_none q.core.greatest last.moment greatest) (due_now q due))

    pub none_retried : q.core.sctp.last + 500_000_000 < last.moment → list_any is_retrying q.core.sctp.entries ≡ true → ⊥
    none_retried later retries = ends_late (q.core.sctp.last + 500_000_000) last.moment q ends alive greatest later (retried_by q retries)
