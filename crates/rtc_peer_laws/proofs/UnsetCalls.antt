-- Inputs, writes and closes set no threshold.
use Rattle.std.proofs.Common.{◌≡◌, ℕ, Bool, true, false, List, Option, Some, None, Result, Ok, Err, alloc_error, sym, ap, subst, arith}
use Rattle.std.specs.Prelude.{nat_lt}
use Rattle.std.specs.declared.alloc.AllocError.{AllocError}
use Rattle.rtc_wire.specs.declared.datagram_recv.DatagramRecv.{DatagramRecv}
use Rattle.rtc_wire.specs.declared.datagram_recv.DatagramRecv.TheVariants as datagrams
use Rattle.rtc_wire.specs.declared.receive.Receive.{Receive}
use Rattle.rtc_ready.specs.Signals.{both}
use Rattle.rtc_sctp.specs.Calls.{can_write, is_current}
use Rattle.rtc_sctp.specs.Streams.{SctpStreams}
use Rattle.rtc_channels.specs.Openings.{ClosesChannel, is_progress_due}
use Rattle.rtc_peer_core.specs.declared.phase.Phase.{Phase}
use Rattle.rtc_peer_core.specs.declared.phase.Phase.TheVariants.{Alive, Closing, Closed}
use Rattle.rtc_peer_core.specs.declared.rtc_error.RtcError.{RtcError}
use Rattle.rtc_peer_core.specs.declared.rtc_error.RtcError.TheVariants.{Alloc, Dtls, Media}
use Rattle.rtc_peer_core.specs.Meanings.{Meanings, PartsLaws}
use Rattle.rtc_peer_transport.specs.declared.input.Input.{Input}
use Rattle.rtc_peer_transport.specs.declared.input.Input.TheVariants.{Timeout, Receive as Datagram}
use Rattle.rtc_peer_transport.specs.declared.polled_peer.PolledPeer.{PolledPeer}
use Rattle.rtc_peer_transport.specs.ChannelCalls.{ClosesDataChannel, WritesChannel, WritesIf, stream_under}
use Rattle.rtc_peer_transport.specs.Statistics.{TimesStatistics}
use Rattle.rtc_peer_transport.proofs.StatisticsTurns.{statistics_timed}
use Rattle.rtc_peer_polling.specs.Inputs.{TimesIce, TimesStreams, TimesChannels, TimesMedia, GivesTime, TakesTimeIf, HandlesInputBy, HandlesInputIn, HandlesInput, with_moment}
use Rattle.rtc_peer_polling.specs.Inputs.{HearsStun, HearsDtls, HearsMedia, HearsKind, Hears, Heard, PartFailed}
use Rattle.rtc_peer_laws.specs.Weight.{IsMoment, IsTimely}
use Rattle.rtc_peer_laws.proofs.PollsUnset.{AreUnset}
use Rattle.rtc_peer_laws.proofs.UnsetStreams.{closes_unset, meets_unset, moment_unset, writes_unset}
use Rattle.rtc_peer_laws.proofs.Measures.{Fit, fit_as}
use Rattle.rtc_peer_laws.proofs.ClosingFalls.{CallFits, turn_fits}

module _ {I D S M E X T W N : Type 0} (m : Meanings I D S M E X T W N) (laws : PartsLaws m) where
  -- the peer with other streams
  refitted : (p q : PolledPeer I D S M N) → q.core.greatest ≡ p.core.greatest
      → (AreUnset m.association laws.association p.core.sctp → AreUnset m.association laws.association q.core.sctp) → Fit m laws p → Fit m laws q
  refitted p q great goes k = (goes k.0, omega (arith, great, k.1))

  -- ---- moments

  ice_fits : (now : ℕ) → CallFits m laws (TimesIce m now)
  unfolding TimesIce
  ice_fits now p (Ok done) q h k = fit_as m laws _ q h.1 (k.0, k.1)
  ice_fits now p (Err Alloc) q h k = fit_as m laws _ q h.1 (k.0, k.1)
  ice_fits now p (Err _) q h k = absurd h

  streams_fit : (now : ℕ) → CallFits m laws (TimesStreams m now)
  unfolding TimesStreams
  streams_fit now p (Ok done) q h k =
      refitted p q (ap (λ (x : PolledPeer I D S M N). x.core.greatest) h.1)
      (moment_unset m.association laws.association p.core.sctp.state now p.core.sctp both (Ok tt) q.core.sctp h.0.0 h.0.1) k
  streams_fit now p (Err Alloc) q h k =
      refitted p q (ap (λ (x : PolledPeer I D S M N). x.core.greatest) h.1)
      (moment_unset m.association laws.association p.core.sctp.state now p.core.sctp both (Err alloc_error) q.core.sctp h.0.0 h.0.1) k
  streams_fit now p (Err _) q h k = absurd h

  channels_fit : CallFits m laws (TimesChannels m)
  unfolding TimesChannels
  channels_fit p (Ok done) q h k =
      refitted p q (ap (λ (x : PolledPeer I D S M N). x.core.greatest) h.1)
      (meets_unset m.association laws.association (is_progress_due m.association p.core.channels p.core.sctp) p.core.channels p.core.sctp both (Ok tt) q.core.channels q.core.sctp h.0.0 h.0.1) k
  channels_fit p (Err Alloc) q h k =
      refitted p q (ap (λ (x : PolledPeer I D S M N). x.core.greatest) h.1)
      (meets_unset m.association laws.association (is_progress_due m.association p.core.channels p.core.sctp) p.core.channels p.core.sctp both (Err alloc_error) q.core.channels q.core.sctp h.0.0 h.0.1) k
  channels_fit p (Err _) q h k = absurd h

  media_fits : (now : ℕ) → CallFits m laws (TimesMedia m now)
  unfolding TimesMedia
  media_fits now p (Ok done) q h k = fit_as m laws _ q h.1 (k.0, k.1)
  media_fits now p (Err (Media cause)) q h k = fit_as m laws _ q h.2 (k.0, k.1)
  media_fits now p (Err Alloc) q h k = fit_as m laws _ q h.1 (k.0, k.1)
  media_fits now p (Err _) q h k = absurd h

  statistics_fit : (now : ℕ) → CallFits m laws (TimesStatistics m now)
  statistics_fit now p r q h k =
      let timed = statistics_timed m now p r q h in
      refitted p q (ap (λ (x : PolledPeer I D S M N). x.core.greatest) timed.kept)
      (λ a. subst (λ (x : SctpStreams S). AreUnset m.association laws.association x) (sym (ap (λ (x : PolledPeer I D S M N). x.core.sctp) timed.kept)) a) k

  gives_fit : (now : ℕ) → IsMoment now → CallFits m laws (GivesTime m now)
  gives_fit now is p r q h k =
      turn_fits m laws (TimesIce m now) _ (ice_fits now)
      (turn_fits m laws (TimesStreams m now) _ (streams_fit now)
      (turn_fits m laws (TimesChannels m) _ channels_fit (turn_fits m laws (TimesMedia m now) (TimesStatistics m now) (media_fits now) (statistics_fit now))))
      (with_moment now p) r q h (k.0, is)

  time_fits : (earlier : Bool) (now : ℕ) → IsMoment now → CallFits m laws (TakesTimeIf m earlier now)
  time_fits true now is p r q h k = fit_as m laws p q h.1 k
  time_fits false now is p r q h k = gives_fit now is p r q h k

  -- ---- datagrams

  stun_fits : (now : ℕ) (datagram : Receive) (bytes : List ℕ) → CallFits m laws (HearsStun m now datagram bytes)
  unfolding HearsStun
  stun_fits now datagram bytes p (Ok done) q h k = fit_as m laws _ q h.1 (k.0, k.1)
  stun_fits now datagram bytes p (Err Alloc) q h k = fit_as m laws _ q h.1 (k.0, k.1)
  stun_fits now datagram bytes p (Err _) q h k = absurd h

  dtls_fits : (bytes : List ℕ) → CallFits m laws (HearsDtls m bytes)
  unfolding HearsDtls
  dtls_fits bytes p (Ok done) q h k = fit_as m laws _ q h.1 (k.0, k.1)
  dtls_fits bytes p (Err (Dtls cause)) q h k = fit_as m laws _ q h.2 (k.0, k.1)
  dtls_fits bytes p (Err Alloc) q h k = fit_as m laws _ q h.1 (k.0, k.1)
  dtls_fits bytes p (Err _) q h k = absurd h

  packet_fits : (given : M → Result (Unit {0}) AllocError → M → Type 0) (bytes : List ℕ) → CallFits m laws (HearsMedia m given bytes)
  unfolding HearsMedia
  packet_fits given bytes p (Ok done) q h k = fit_as m laws _ q h.1 (k.0, k.1)
  packet_fits given bytes p (Err Alloc) q h k = fit_as m laws _ q h.1 (k.0, k.1)
  packet_fits given bytes p (Err _) q h k = absurd h

  kind_fits : (now : ℕ) (datagram : Receive) (contents : DatagramRecv) → CallFits m laws (HearsKind m now datagram contents)
  kind_fits now datagram (datagrams.Stun view) p r q h k = stun_fits now datagram view.bytes.now p r q h k
  kind_fits now datagram (datagrams.Dtls bytes) p r q h k = dtls_fits bytes.now p r q h k
  kind_fits now datagram (datagrams.Rtp bytes) p r q h k = packet_fits (λ a s b. m.media.rtp_given a now bytes.now s b) bytes.now p r q h k
  kind_fits now datagram (datagrams.Rtcp bytes) p r q h k = packet_fits (λ a s b. m.media.rtcp_given a now bytes.now s b) bytes.now p r q h k

  hears_fits : (now : ℕ) (datagram : Receive) → IsMoment now → CallFits m laws (Hears m now datagram)
  hears_fits now datagram is p r q (Heard between heard time) k =
      time_fits (nat_lt now between.core.greatest) now is between r q time (kind_fits now datagram datagram.contents p (Ok tt) between heard k)
  hears_fits now datagram is p r q (PartFailed error failed heard) k = kind_fits now datagram datagram.contents p (Err error) q heard k

  input_by : (input : Input) → IsTimely input → CallFits m laws (HandlesInputBy m input)
  input_by (Timeout now) is p r q h k = time_fits (nat_lt now p.core.greatest) now is p r q h k
  input_by (Datagram now datagram) is p r q h k = hears_fits now datagram is p r q h k

  input_in : (phase : Phase) (input : Input) → IsTimely input → CallFits m laws (HandlesInputIn m phase input)
  input_in Alive input is p r q h k = input_by input is p r q h k
  input_in Closing input is p r q h k = input_by input is p r q h k
  input_in Closed input is p r q h k = fit_as m laws p q h.1 k

  pub input_fits : (input : Input) → IsTimely input → CallFits m laws (HandlesInput m input)
  input_fits input is p r q h k = input_in p.core.phase input is p r q h k

  -- ---- writes, and closes of channels

  write_by : (full : Bool) (stream : ℕ) (binary : Bool) (bytes : List ℕ) (p : PolledPeer I D S M N) (r : Result Bool RtcError) (q : PolledPeer I D S M N)
      → WritesIf m full stream binary bytes p r q → Fit m laws p → Fit m laws q
  write_by true stream binary bytes p r q h k = fit_as m laws p q h.1 k
  write_by false stream binary bytes p r q h k =
      refitted p q (ap (λ (x : PolledPeer I D S M N). x.core.greatest) h.3)
      (writes_unset m.association laws.association (can_write m.association stream p.core.sctp) (is_current m.association stream p.core.sctp) stream binary bytes p.core.sctp h.0 q.core.sctp h.1) k

  pub write_fits : (stream : ℕ) (binary : Bool) (bytes : List ℕ) (p : PolledPeer I D S M N) (r : Result Bool RtcError) (q : PolledPeer I D S M N)
      → WritesChannel m stream binary bytes p r q → Fit m laws p → Fit m laws q
  write_fits stream binary bytes p r q h k = write_by _ stream binary bytes p r q h k

  close_by : (stream : Option ℕ) (p : PolledPeer I D S M N) (r : Result (Unit {0}) AllocError) (q : PolledPeer I D S M N) → ClosesChannel m.association stream p.core.sctp r q.core.sctp
      → AreUnset m.association laws.association p.core.sctp → AreUnset m.association laws.association q.core.sctp
  close_by None p r q h k = subst (λ (x : SctpStreams S). AreUnset m.association laws.association x) (sym h.1) k
  close_by (Some stream) p r q h k = closes_unset m.association laws.association stream p.core.sctp r q.core.sctp h k

  pub channel_close_fits : (id : ℕ) (p : PolledPeer I D S M N) (r : Result (Unit {0}) AllocError) (q : PolledPeer I D S M N) → ClosesDataChannel m id p r q
      → Fit m laws p → Fit m laws q
  channel_close_fits id p r q h k =
      refitted p q (ap (λ (x : PolledPeer I D S M N). x.core.greatest) h.1) (close_by (stream_under id p.core.channels) p r q h.0) k
