-- A channel that is open has its stream, at a peer that is neither closing nor closed.
use Rattle.std.proofs.Common.{◌≡◌, ◌∙◌, if◌then◌else◌, ℕ, Bool, true, false, true≢false, Option, Some, None, refl, sym, ap}
use Rattle.std.specs.Prelude.{option_and_then}
use Rattle.rtc_sctp.specs.Calls.{is_open_stream}
use Rattle.rtc_sctp.specs.Streams.{SctpStreams}
use Rattle.rtc_peer_core.specs.declared.phase.Phase.TheVariants.{Closed}
use Rattle.rtc_peer_transport.specs.ChannelCalls.{if_open, is_phase_open, open_stream_under, stream_under}
use Rattle.rtc_peer_transport.specs.declared.polled_peer.PolledPeer.{PolledPeer}

none_some : (s : ℕ) → None ≡ Some s → ⊥
none_some s h = cc

opens_if : {S : Type 0} (b : Bool) (o : Option ℕ) (p : SctpStreams S) (s : ℕ) → (if b then option_and_then (if_open p) o else None) ≡ Some s
    → (b ≡ true) × (o ≡ Some s)
opens_if true None p s h = absurd (none_some s h)
opens_if true (Some t) p s h = by (is_open_stream t p) h
  where
    by : (c : Bool) → (if c then Some t else None) ≡ Some s → (true ≡ true) × (Some t ≡ Some s)
    by true k = (refl, k)
    by false k = absurd (none_some s k)
opens_if false o p s h = absurd (none_some s h)

is_opened : {S : Type 0} (b : Bool) (o : Option ℕ) (p : SctpStreams S) (s : ℕ) → (if b then option_and_then (if_open p) o else None) ≡ Some s
    → is_open_stream s p ≡ true
is_opened true None p s h = absurd (none_some s h)
is_opened {S} true (Some t) p s h = by (is_open_stream t p) refl h
  where
    some_is : Some t ≡ Some s → t ≡ s
    some_is e = cc

    by : (c : Bool) → is_open_stream t p ≡ c → (if c then Some t else None) ≡ Some s → is_open_stream s p ≡ true
    by true e k = ap (λ (n : ℕ). is_open_stream n p) (sym (some_is k)) ∙ e
    by false e k = absurd (none_some s k)
is_opened false o p s h = absurd (none_some s h)

pub open_open : {I D S M N : Type 0} (channel s : ℕ) (p : PolledPeer I D S M N) → open_stream_under channel p ≡ Some s → is_open_stream s p.core.sctp ≡ true
open_open channel s p h = is_opened (is_phase_open p.core.phase) (stream_under channel p.core.channels) p.core.sctp s h

pub open_placed : {I D S M N : Type 0} (channel s : ℕ) (p : PolledPeer I D S M N) → open_stream_under channel p ≡ Some s
    → stream_under channel p.core.channels ≡ Some s
open_placed channel s p h = (opens_if (is_phase_open p.core.phase) (stream_under channel p.core.channels) p.core.sctp s h).1

pub open_free : {I D S M N : Type 0} (channel s : ℕ) (p : PolledPeer I D S M N) → open_stream_under channel p ≡ Some s → p.core.phase ≡ Closed → ⊥
open_free channel s p h closed =
    true≢false
    (sym (opens_if (is_phase_open p.core.phase) (stream_under channel p.core.channels) p.core.sctp s h).0
    ∙ ap is_phase_open closed)
