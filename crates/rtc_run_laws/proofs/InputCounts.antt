-- What inputs do to the counts of faults: none falls, and an error that tells a fault of a part comes only where that part's count rose.
use Rattle.std.proofs.Common.{◌≡◌, ◌≤◌, ◌⊎◌, inl, inr, ℕ, Bool, true, false, List, Result, Ok, Err, alloc_error, refl, sym, ap, subst, arith}
use Rattle.std.specs.declared.alloc.AllocError.{AllocError}
use Rattle.rtc_wire.specs.declared.datagram_recv.DatagramRecv.{DatagramRecv}
use Rattle.rtc_wire.specs.declared.datagram_recv.DatagramRecv.TheVariants as datagrams
use Rattle.rtc_wire.specs.declared.receive.Receive.{Receive}
use Rattle.rtc_parts.specs.Why.{Timed, Other}
use Rattle.rtc_parts.specs.declared.dtls_error.DtlsError.TheVariants.{Fault, Alloc as DtlsAlloc}
use Rattle.rtc_parts.specs.MediaActs.{MediaGiven, MediaStirred, StatsVisited}
use Rattle.rtc_parts.specs.declared.media_error.MediaError.{MediaError}
use Rattle.rtc_parts.specs.declared.media_error.MediaError.TheVariants.{Alloc as MediaAlloc}
use Rattle.rtc_peer_core.specs.declared.phase.Phase.{Phase}
use Rattle.rtc_peer_core.specs.declared.phase.Phase.TheVariants.{Alive, Closing, Closed}
use Rattle.rtc_peer_core.specs.declared.rtc_error.RtcError.{RtcError}
use Rattle.rtc_peer_core.specs.declared.rtc_error.RtcError.TheVariants.{Dtls, Media as MediaFailed, Alloc}
use Rattle.rtc_peer_core.specs.Meanings.{Meanings, PartsLaws}
use Rattle.rtc_peer_transport.specs.declared.input.Input.{Input}
use Rattle.rtc_peer_transport.specs.declared.input.Input.TheVariants.{Timeout as TimeCame, Receive as Datagram}
use Rattle.rtc_peer_transport.specs.declared.polled_peer.PolledPeer.{PolledPeer}
use Rattle.rtc_peer_polling.specs.Inputs.{TimesIce, TimesStreams, TimesChannels, TimesMedia, GivesTime, TakesTimeIf, with_moment, HearsStun, HearsDtls, HearsMedia, HearsKind, Hears, Heard, PartFailed, HandlesInputBy, HandlesInputIn, HandlesInput}
use Rattle.rtc_peer_transport.specs.Statistics.{TimesStatistics}
use Rattle.rtc_peer_transport.proofs.StatisticsTurns.{StatisticsTimed, VisitedOnce, statistics_timed}
use Rattle.rtc_run_history.specs.Memory.{CountedPart}
use Rattle.rtc_run_laws.proofs.GrowingCounts.{same_dtls, same_association, quiet_counts, grows_quiet, answer_tells, given_grows, hands_grow, association_faults, Counts, same_later, later_of, counts_on, counts_as, still_counts, dtls_counts, media_counts, association_counts}
use Rattle.rtc_run_laws.proofs.ClosingCounts.{CallCounts, turn_counts, none_counts}
use Rattle.rtc_run_laws.proofs.StreamFaults.{streams_timed_later, channels_timed_later}

module _ {I D S M E X T W N : Type 0} (m : Meanings I D S M E X T W N) (laws : PartsLaws m) where
  -- ---- moments

  ice_timed_counts : (now : ℕ) → CallCounts m (TimesIce m now)
  unfolding TimesIce
  ice_timed_counts now p (Ok done) q h = none_counts m p _ (Ok tt) q refl h.1 (record { dtls = refl; media = refl; association = refl })
  ice_timed_counts now p (Err Alloc) q h = still_counts m p _ q (answer_tells {A = Unit {0}} (Err Alloc)) (λ part. refl) h.1 (record { dtls = refl; media = refl; association = refl })
  ice_timed_counts now p (Err _) q h = absurd h

  streams_timed_count : (now : ℕ) → CallCounts m (TimesStreams m now)
  unfolding TimesStreams
  streams_timed_count now p (Ok done) q h =
      association_counts m p q (answer_tells {A = Unit {0}} (Ok tt)) refl refl (ap (λ (x : PolledPeer I D S M N). x.core.dtls.instance) h.1) (ap (λ (x : PolledPeer I D S M N). x.core.media) h.1)
      (grows_quiet (association_faults m p) (association_faults m q) false refl (streams_timed_later m.association laws.association now p.core.sctp (Ok tt) q.core.sctp h.0))
  streams_timed_count now p (Err Alloc) q h =
      association_counts m p q (answer_tells {A = Unit {0}} (Err Alloc)) refl refl (ap (λ (x : PolledPeer I D S M N). x.core.dtls.instance) h.1) (ap (λ (x : PolledPeer I D S M N). x.core.media) h.1)
      (grows_quiet (association_faults m p) (association_faults m q) false refl (streams_timed_later m.association laws.association now p.core.sctp (Err alloc_error) q.core.sctp h.0))
  streams_timed_count now p (Err _) q h = absurd h

  channels_timed_count : CallCounts m (TimesChannels m)
  unfolding TimesChannels
  channels_timed_count p (Ok done) q h =
      association_counts m p q (answer_tells {A = Unit {0}} (Ok tt)) refl refl (ap (λ (x : PolledPeer I D S M N). x.core.dtls.instance) h.1) (ap (λ (x : PolledPeer I D S M N). x.core.media) h.1)
      (grows_quiet (association_faults m p) (association_faults m q) false refl
      (channels_timed_later m.association laws.association p.core.channels p.core.sctp (Ok tt) q.core.channels q.core.sctp h.0))
  channels_timed_count p (Err Alloc) q h =
      association_counts m p q (answer_tells {A = Unit {0}} (Err Alloc)) refl refl (ap (λ (x : PolledPeer I D S M N). x.core.dtls.instance) h.1) (ap (λ (x : PolledPeer I D S M N). x.core.media) h.1)
      (grows_quiet (association_faults m p) (association_faults m q) false refl
      (channels_timed_later m.association laws.association p.core.channels p.core.sctp (Err alloc_error) q.core.channels q.core.sctp h.0))
  channels_timed_count p (Err _) q h = absurd h

  timed_later : (p q : M) (now : ℕ) (r : Result (Unit {0}) MediaError) → m.media.timed p now r q → m.media.faults p ≤ m.media.faults q
  timed_later p q now r h = laws.media.faults_rise p q (MediaStirred (Timed now)) (r, h)

  media_timed_counts : (now : ℕ) → CallCounts m (TimesMedia m now)
  unfolding TimesMedia
  media_timed_counts now p (Ok done) q h =
      media_counts m p q (answer_tells {A = Unit {0}} (Ok tt)) refl refl (ap (λ (x : PolledPeer I D S M N). x.core.sctp.association) h.1) (ap (λ (x : PolledPeer I D S M N). x.core.dtls.instance) h.1)
      (grows_quiet (m.media.faults p.core.media) (m.media.faults q.core.media) false refl (timed_later p.core.media q.core.media now (Ok tt) h.0))
  media_timed_counts now p (Err (MediaFailed cause)) q h =
      media_counts m p q (answer_tells {A = Unit {0}} (Err (MediaFailed cause))) refl refl (ap (λ (x : PolledPeer I D S M N). x.core.sctp.association) h.2) (ap (λ (x : PolledPeer I D S M N). x.core.dtls.instance) h.2)
      (timed_later p.core.media q.core.media now (Err cause) h.1, λ told. laws.media.time_fault p.core.media q.core.media now cause h.0 h.1)
  media_timed_counts now p (Err Alloc) q h =
      media_counts m p q (answer_tells {A = Unit {0}} (Err Alloc)) refl refl (ap (λ (x : PolledPeer I D S M N). x.core.sctp.association) h.1) (ap (λ (x : PolledPeer I D S M N). x.core.dtls.instance) h.1)
      (grows_quiet (m.media.faults p.core.media) (m.media.faults q.core.media) false refl (timed_later p.core.media q.core.media now (Err MediaAlloc) h.0))
  media_timed_counts now p (Err _) q h = absurd h

  visited_later : (now : ℕ) (p q : M) → VisitedOnce m now p q → m.media.faults p ≤ m.media.faults q
  visited_later now p q (inl same) = subst (λ (x : M). m.media.faults p ≤ m.media.faults x) (sym same) (omega arith)
  visited_later now p q (inr visited) =
      laws.media.faults_rise p q (MediaStirred Other) (inr (inr (StatsVisited now visited.0 visited.1.0 visited.1.1.0 visited.1.1.1)))

  -- statistics tell no fault
  statistics_timed_count : (now : ℕ) → CallCounts m (TimesStatistics m now)
  statistics_timed_count now p r q h = by timed.ends
    where
      timed : StatisticsTimed m now p r q
      timed = statistics_timed m now p r q h

      counts : (s : Result (Unit {0}) RtcError) → ((part : CountedPart) → answer_tells s part ≡ false) → Counts m p (answer_tells s) q
      counts s quiet =
          quiet_counts m p q (answer_tells s) quiet (
          record {
            dtls = same_dtls m p q (ap (λ (x : PolledPeer I D S M N). x.core.dtls.instance) timed.kept);
            media = visited_later now p.core.media q.core.media timed.media;
            association = same_association m p q (ap (λ (x : PolledPeer I D S M N). x.core.sctp.association) timed.kept);
          }
          )

      by : ((r ≡ Ok tt) × (q.core.phase ≡ p.core.phase)) ⊎ ((r ≡ Err Alloc) × (q.core.phase ≡ Closed)) → Counts m p (answer_tells r) q
      by (inl well) = subst (λ (s : Result (Unit {0}) RtcError). Counts m p (answer_tells s) q) (sym well.0) (counts (Ok tt) (λ part. refl))
      by (inr lacking) = subst (λ (s : Result (Unit {0}) RtcError). Counts m p (answer_tells s) q) (sym lacking.0) (counts (Err Alloc) (λ part. refl))

  time_given_counts : (now : ℕ) (p : PolledPeer I D S M N) (r : Result (Unit {0}) RtcError) (q : PolledPeer I D S M N) → GivesTime m now p r q
      → Counts m p (answer_tells r) q
  time_given_counts now p r q h =
      counts_on m p (with_moment now p) q (answer_tells r) (same_later m p (with_moment now p) (with_moment now p) refl (record { dtls = refl; media = refl; association = refl }))
      (turn_counts m (TimesIce m now) _ (ice_timed_counts now)
      (turn_counts m (TimesStreams m now) _ (streams_timed_count now)
      (turn_counts m (TimesChannels m) _ channels_timed_count
      (turn_counts m (TimesMedia m now) (TimesStatistics m now) (media_timed_counts now) (statistics_timed_count now)))) (with_moment now p) r q h)

  time_counts : (earlier : Bool) (now : ℕ) (p : PolledPeer I D S M N) (r : Result (Unit {0}) RtcError) (q : PolledPeer I D S M N)
      → TakesTimeIf m earlier now p r q → Counts m p (answer_tells r) q
  time_counts true now p r q h = none_counts m p p r q h.0 h.1 (record { dtls = refl; media = refl; association = refl })
  time_counts false now p r q h = time_given_counts now p r q h

  -- ---- datagrams

  stun_counts : (now : ℕ) (datagram : Receive) (bytes : List ℕ) (p : PolledPeer I D S M N) (r : Result (Unit {0}) RtcError)
      (q : PolledPeer I D S M N) → HearsStun m now datagram bytes p r q → Counts m p (answer_tells r) q
  unfolding HearsStun
  stun_counts now datagram bytes p (Ok done) q h = none_counts m p _ (Ok tt) q refl h.1 (record { dtls = refl; media = refl; association = refl })
  stun_counts now datagram bytes p (Err Alloc) q h = still_counts m p _ q (answer_tells {A = Unit {0}} (Err Alloc)) (λ part. refl) h.1 (record { dtls = refl; media = refl; association = refl })
  stun_counts now datagram bytes p (Err _) q h = absurd h

  heard_dtls_counts : (bytes : List ℕ) (p : PolledPeer I D S M N) (r : Result (Unit {0}) RtcError) (q : PolledPeer I D S M N) → HearsDtls m bytes p r q
      → Counts m p (answer_tells r) q
  unfolding HearsDtls
  heard_dtls_counts bytes p (Ok done) q h =
      dtls_counts m p q (answer_tells {A = Unit {0}} (Ok tt)) refl refl (ap (λ (x : PolledPeer I D S M N). x.core.sctp.association) h.1) (ap (λ (x : PolledPeer I D S M N). x.core.media) h.1)
      (hands_grow m.dtls laws.dtls p.core.dtls p.core.dtls.active (λ i r j. m.dtls.given i bytes r j) (Ok tt) q.core.dtls (given_grows m.dtls laws.dtls bytes) h.0)
  heard_dtls_counts bytes p (Err (Dtls cause)) q h =
      dtls_counts m p q (answer_tells {A = Unit {0}} (Err (Dtls cause))) refl refl (ap (λ (x : PolledPeer I D S M N). x.core.sctp.association) h.2) (ap (λ (x : PolledPeer I D S M N). x.core.media) h.2)
      (hands_grow m.dtls laws.dtls p.core.dtls p.core.dtls.active (λ i r j. m.dtls.given i bytes r j) (Err Fault) q.core.dtls (given_grows m.dtls laws.dtls bytes) h.1)
  heard_dtls_counts bytes p (Err Alloc) q h =
      dtls_counts m p q (answer_tells {A = Unit {0}} (Err Alloc)) refl refl (ap (λ (x : PolledPeer I D S M N). x.core.sctp.association) h.1) (ap (λ (x : PolledPeer I D S M N). x.core.media) h.1)
      (hands_grow m.dtls laws.dtls p.core.dtls p.core.dtls.active (λ i r j. m.dtls.given i bytes r j) (Err DtlsAlloc) q.core.dtls (given_grows m.dtls laws.dtls bytes) h.0)
  heard_dtls_counts bytes p (Err _) q h = absurd h

  -- packets of either kind, whatever a call with one does
  heard_media_counts : (given : M → Result (Unit {0}) AllocError → M → Type 0) (bytes : List ℕ)
      → ((i : M) (r : Result (Unit {0}) AllocError) (j : M) → given i r j → m.media.faults i ≤ m.media.faults j)
      → (p : PolledPeer I D S M N) (r : Result (Unit {0}) RtcError) (q : PolledPeer I D S M N) → HearsMedia m given bytes p r q → Counts m p (answer_tells r) q
  unfolding HearsMedia
  heard_media_counts given bytes later p (Ok done) q h =
      media_counts m p q (answer_tells {A = Unit {0}} (Ok tt)) refl refl (ap (λ (x : PolledPeer I D S M N). x.core.sctp.association) h.1) (ap (λ (x : PolledPeer I D S M N). x.core.dtls.instance) h.1)
      (grows_quiet (m.media.faults p.core.media) (m.media.faults q.core.media) false refl (later p.core.media (Ok tt) q.core.media h.0))
  heard_media_counts given bytes later p (Err Alloc) q h =
      media_counts m p q (answer_tells {A = Unit {0}} (Err Alloc)) refl refl (ap (λ (x : PolledPeer I D S M N). x.core.sctp.association) h.1) (ap (λ (x : PolledPeer I D S M N). x.core.dtls.instance) h.1)
      (grows_quiet (m.media.faults p.core.media) (m.media.faults q.core.media) false refl (later p.core.media (Err alloc_error) q.core.media h.0))
  heard_media_counts given bytes later p (Err _) q h = absurd h

  kind_counts : (now : ℕ) (datagram : Receive) (contents : DatagramRecv) (p : PolledPeer I D S M N) (r : Result (Unit {0}) RtcError)
      (q : PolledPeer I D S M N) → HearsKind m now datagram contents p r q → Counts m p (answer_tells r) q
  kind_counts now datagram (datagrams.Stun view) p r q h = stun_counts now datagram view.bytes.now p r q h
  kind_counts now datagram (datagrams.Dtls bytes) p r q h = heard_dtls_counts bytes.now p r q h
  kind_counts now datagram (datagrams.Rtp bytes) p r q h =
      heard_media_counts (λ a s b. m.media.rtp_given a now bytes.now s b) bytes.now
      (λ i s j given. laws.media.faults_rise i j (MediaGiven bytes.now) (now, (s, inl given))) p r q h
  kind_counts now datagram (datagrams.Rtcp bytes) p r q h =
      heard_media_counts (λ a s b. m.media.rtcp_given a now bytes.now s b) bytes.now
      (λ i s j given. laws.media.faults_rise i j (MediaGiven bytes.now) (now, (s, inr given))) p r q h

  hears_count : (now : ℕ) (datagram : Receive) (p : PolledPeer I D S M N) (r : Result (Unit {0}) RtcError) (q : PolledPeer I D S M N)
      → Hears m now datagram p r q → Counts m p (answer_tells r) q
  hears_count now datagram p r q (Heard between heard time) =
      counts_on m p between q (answer_tells r)
      (later_of m p (answer_tells {A = Unit {0}} (Ok tt)) between (kind_counts now datagram datagram.contents p (Ok tt) between heard)) (time_counts _ now between r q time)
  hears_count now datagram p r q (PartFailed error is heard) =
      counts_as m p q (answer_tells {A = Unit {0}} (Err error)) (answer_tells r) (λ part. ap (λ (x : Result (Unit {0}) RtcError). answer_tells x part) is)
      (kind_counts now datagram datagram.contents p (Err error) q heard)

  input_by_counts : (input : Input) (p : PolledPeer I D S M N) (r : Result (Unit {0}) RtcError) (q : PolledPeer I D S M N)
      → HandlesInputBy m input p r q → Counts m p (answer_tells r) q
  input_by_counts (TimeCame now) p r q h = time_counts _ now p r q h
  input_by_counts (Datagram now datagram) p r q h = hears_count now datagram p r q h

  input_in_counts : (phase : Phase) (input : Input) (p : PolledPeer I D S M N) (r : Result (Unit {0}) RtcError) (q : PolledPeer I D S M N)
      → HandlesInputIn m phase input p r q → Counts m p (answer_tells r) q
  input_in_counts Alive input p r q h = input_by_counts input p r q h
  input_in_counts Closing input p r q h = input_by_counts input p r q h
  input_in_counts Closed input p r q h = none_counts m p p r q h.0 h.1 (record { dtls = refl; media = refl; association = refl })

  -- an input
  pub input_counts : (input : Input) (p : PolledPeer I D S M N) (r : Result (Unit {0}) RtcError) (q : PolledPeer I D S M N) → HandlesInput m input p r q
      → Counts m p (answer_tells r) q
  input_counts input p r q h = input_in_counts p.core.phase input p r q h
