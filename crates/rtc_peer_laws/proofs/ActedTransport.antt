-- What a poll does to the ICE agent, and what it does with the moment, the keys, the certificate and the end of the connection.
use Rattle.std.proofs.Common.{◌≡◌, ◌∷◌, inr, ℕ, Bool, true, false, List, [], Option, Some, None, Result, Ok, Err, alloc_error, refl, sym, ap, subst}
use Rattle.std.specs.declared.alloc.AllocError.{AllocError}
use Rattle.rtc_parts.specs.Why.{Other}
use Rattle.rtc_parts.specs.declared.srtp_profile.SrtpProfile.{SrtpProfile}
use Rattle.rtc_parts.specs.Among.{Among}
use Rattle.rtc_parts.proofs.AmongLemmas.{among_none, among_self}
use Rattle.rtc_parts.specs.AssociationWords.{taken}
use Rattle.rtc_parts.specs.declared.dtls_error.DtlsError.{DtlsError}
use Rattle.rtc_parts.specs.declared.dtls_error.DtlsError.TheVariants.{Fault, Alloc as DtlsAlloc}
use Rattle.rtc_parts.specs.DtlsActs.{Stirred, TimedAt, dtls_moved-one}
use Rattle.rtc_parts.specs.DtlsState.{DtlsState, HandsOn}
use Rattle.rtc_parts.specs.declared.ice_event.IceEvent.{IceEvent}
use Rattle.rtc_parts.specs.declared.ice_event.IceEvent.TheVariants.{IceRestart, StateChange, DiscoveredRecv, NominatedSend}
use Rattle.rtc_parts.specs.IceActs.{Stirred as IceStirred, Told as IceTold, ice_moved-one}
use Rattle.rtc_parts.specs.MediaActs.{MediaStirred, Keyed, media_moved-one}
use Rattle.rtc_peer_core.specs.declared.rtc_error.RtcError.{RtcError}
use Rattle.rtc_peer_core.specs.declared.rtc_error.RtcError.TheVariants.{RemoteSdp, Dtls, Alloc}
use Rattle.rtc_peer_core.specs.Meanings.{Meanings, PartsLaws}
use Rattle.rtc_peer_transport.specs.declared.event.Event.TheVariants as told
use Rattle.rtc_peer_transport.specs.declared.met.Met.{Met}
use Rattle.rtc_peer_transport.specs.declared.met.Met.TheVariants.{Nothing, Again, Event as MetEvent, Error}
use Rattle.rtc_peer_transport.specs.declared.polled_peer.PolledPeer.{PolledPeer}
use Rattle.rtc_peer_transport.specs.Closing.{ClosesPeer}
use Rattle.rtc_peer_transport.specs.Connection.{with_ice}
use Rattle.rtc_peer_polling.specs.DtlsStages.{GivesDtlsTime, TimesDtlsIf}
use Rattle.rtc_peer_polling.specs.DtlsStages.{TakesKeys, TakesCloseNotify, ChecksCert}
use Rattle.rtc_peer_polling.specs.IceStages.{TakesIceEvent}
use Rattle.rtc_peer_laws.specs.PeerActs.{nothing_came, queue_and_role}
use Rattle.rtc_peer_laws.specs.Acts.{PeerDid}
use Rattle.rtc_peer_laws.proofs.ActJoins.{ice_did, dtls_did, media_did, still_did}
use Rattle.rtc_peer_laws.proofs.ActedClosing.{beside, BesideIce, BesideDtls, BesideMedia, close_acts}
use Rattle.rtc_peer_laws.proofs.ClosedRows.{close_only, close_rows}
use Rattle.rtc_peer_laws.specs.RowsChanged.{OnlyActs}
use Rattle.rtc_sctp_laws.proofs.RunningPolls.{stay_same}
use Rattle.rtc_peer_laws.proofs.StreamsJoin.{StatesStay, answer_met, TellsNoOpening, ice_kept, dtls_kept, media_kept}
use Rattle.rtc_peer_laws.proofs.VisitActs.{contents_met, MeetsData, KeepsRows, VisitDid, ShowsNone, quiet_nothing, visit_is, plain_visit, still_visit}
use Rattle.rtc_peer_laws.proofs.VisitActs.{keeps_by, visit_on, StageActs}

module _ {I D S M E X T W N : Type 0} (m : Meanings I D S M E X T W N) (laws : PartsLaws m) where
  pub shows_again : ShowsNone m Again
  shows_again = (refl, λ held. refl, tt)

  pub shows_nothing : ShowsNone m Nothing
  shows_nothing = (refl, λ held. refl, tt)

  pub shows_error : (error : RtcError) → ShowsNone m (Error error)
  shows_error error = (refl, λ held. refl, tt)

  -- an event of the agent
  ice_told : (event : IceEvent) (p q : PolledPeer I D S M N) → m.ice.polled p.core.ice (Some event) q.core.ice → BesideIce p q
      → PeerDid m nothing_came (p.core.greatest ∷ []) [] [] [] p q
  ice_told event p q h beside =
      ice_did m nothing_came (p.core.greatest ∷ []) [] p q (IceStirred (IceTold event) ∷ [])
      (ice_moved-one m.ice p.core.ice q.core.ice (IceStirred (IceTold event)) h) (among_none []) (among_none (p.core.greatest ∷ [])) (among_none [])
      (ap (λ d. d.instance) beside.0) (ap queue_and_role beside.0) beside.1 beside.2

  ice_met : (x r : Met E) (event : IceEvent) (p n q : PolledPeer I D S M N) → r ≡ x → q ≡ n → contents_met x ≡ [] → MeetsData x n.core.channels [] → TellsNoOpening (answer_met x)
      → m.ice.polled p.core.ice (Some event) n.core.ice → BesideIce p n → KeepsRows x p.core.channels n.core.channels → VisitDid m p r q
  ice_met x r event p n q met is none data_none unopened polled beside rows =
      visit_is m x r p q met
      (subst (λ (y : PolledPeer I D S M N). VisitDid m p x y) (sym is)
      (plain_visit m x p n
      (subst (λ (l : List (List ℕ)). PeerDid m nothing_came (p.core.greatest ∷ []) l [] [] p n) (sym none) (ice_told event p n polled beside))
      data_none beside.3 rows (ice_kept m.association p n beside) unopened))

  pub ice_event : (event : Option IceEvent) (ice : I) (p : PolledPeer I D S M N) (r : Met E) (q : PolledPeer I D S M N) → m.ice.polled p.core.ice event ice
      → TakesIceEvent event (with_ice ice p) r q → VisitDid m p r q
  ice_event None ice p r q polled taken =
      still_visit m Nothing r p (with_ice ice p) q taken.0 taken.1 shows_nothing
      ((laws.ice.event_none p.core.ice ice polled, refl, refl, refl, refl), refl, refl)
  ice_event (Some IceRestart) ice p r q polled taken =
      ice_met Again r IceRestart p _ q taken.0 taken.1 refl refl tt polled (refl, refl, refl, refl, refl) refl
  ice_event (Some (StateChange state)) ice p r q polled taken =
      ice_met (MetEvent (told.IceConnectionStateChange state)) r (StateChange state) p _ q taken.0 taken.1 refl refl tt polled (refl, refl, refl, refl, refl) tt
  ice_event (Some (DiscoveredRecv proto source)) ice p r q polled taken =
      ice_met Again r (DiscoveredRecv proto source) p _ q taken.0 taken.1 refl refl tt polled (refl, refl, refl, refl, refl) refl
  ice_event (Some (NominatedSend proto source destination)) ice p r q polled taken =
      ice_met Again r (NominatedSend proto source destination) p _ q taken.0 taken.1 refl refl tt polled (refl, refl, refl, refl, refl) refl

  -- the greatest moment is handed to the connection
  handed_time : (active : Option Bool) (r : Result (Unit {0}) DtlsError) (p q : PolledPeer I D S M N)
      → HandsOn m.dtls p.core.dtls active (λ i s j. m.dtls.timed i p.core.greatest s j) r q.core.dtls → BesideDtls p q
      → PeerDid m nothing_came (p.core.greatest ∷ []) [] [] [] p q
  handed_time None r p q h beside =
      still_did m nothing_came (p.core.greatest ∷ []) p q
      (beside.0, ap (λ (d : DtlsState D). d.instance) h.1, ap queue_and_role h.1, beside.1, beside.2)
  handed_time (Some active) r p q h beside =
      dtls_did m nothing_came (p.core.greatest ∷ []) p q (Stirred (TimedAt p.core.greatest r) ∷ [])
      (dtls_moved-one m.dtls p.core.dtls.instance q.core.dtls.instance (Stirred (TimedAt p.core.greatest r)) h.0) (among_none [])
      (among_self (p.core.greatest ∷ [])) refl refl
      (subst (λ (l : List (List ℕ)). Among l p.core.dtls.packets) (sym (ap (λ (d : DtlsState D). d.packets) h.1)) (among_self p.core.dtls.packets))
      (ap (λ (d : DtlsState D). d.active) h.1) beside.0 beside.1 beside.2

  given_time : StageActs m laws.association (GivesDtlsTime m)
  unfolding GivesDtlsTime
  given_time p Nothing q h =
      let kept = beside BesideDtls p _ q h.1 (refl, refl, refl, refl, refl) in
      plain_visit m Nothing p q (handed_time p.core.dtls.active (Ok tt) p q h.0 kept) refl kept.3 (ap (λ held. held.rows) kept.4) (dtls_kept m.association p q kept) tt
  given_time p (Error (Dtls cause)) q h =
      let kept = beside BesideDtls p _ q h.2 (refl, refl, refl, refl, refl) in
      plain_visit m (Error (Dtls cause)) p q (handed_time p.core.dtls.active (Err Fault) p q h.1 kept) refl kept.3 tt (dtls_kept m.association p q kept) tt
  given_time p (Error Alloc) q h =
      let kept = beside BesideDtls p _ q h.1 (refl, refl, refl, refl, refl) in
      plain_visit m (Error Alloc) p q (handed_time p.core.dtls.active (Err DtlsAlloc) p q h.0 kept) refl kept.3 tt (dtls_kept m.association p q kept) tt
  given_time p _ q h = absurd h

  pub times_act : (due : Bool) (p : PolledPeer I D S M N) (r : Met E) (q : PolledPeer I D S M N) → TimesDtlsIf m due p r q → VisitDid m p r q
  times_act true p r q h = given_time p r q h
  times_act false p r q h = still_visit m Nothing r p p q h.0 h.1 shows_nothing ((refl, refl, refl, refl, refl), refl, refl)

  -- keys of the media part
  keyed_did : (key : List ℕ) (profile : SrtpProfile) (active : Bool) (r : Result (Unit {0}) AllocError) (p q : PolledPeer I D S M N)
      → m.media.keyed p.core.media key profile active r q.core.media → BesideMedia p q → PeerDid m nothing_came (p.core.greatest ∷ []) [] [] [] p q
  keyed_did key profile active r p q h beside =
      media_did m nothing_came (p.core.greatest ∷ []) [] p q (MediaStirred Other ∷ [])
      (media_moved-one m.media p.core.media q.core.media (MediaStirred Other) (inr (inr (Keyed key profile active r h))))
      (among_none []) (among_none (p.core.greatest ∷ [])) (among_none []) beside.0 (ap (λ d. d.instance) beside.1) (ap queue_and_role beside.1) beside.2

  pub keys_act : (key : List ℕ) (profile : SrtpProfile) (active : Bool) → StageActs m laws.association (TakesKeys m key profile active)
  unfolding TakesKeys
  keys_act key profile active p Again q h =
      let kept = beside BesideMedia p _ q h.1 (refl, refl, refl, refl, refl) in
      plain_visit m Again p q (keyed_did key profile active (Ok tt) p q h.0 kept) refl kept.3 (ap (λ held. held.rows) kept.4) (media_kept m.association p q kept) tt
  keys_act key profile active p (Error Alloc) q h =
      let kept = beside BesideMedia p _ q h.1 (refl, refl, refl, refl, refl) in
      plain_visit m (Error Alloc) p q (keyed_did key profile active (Err alloc_error) p q h.0 kept) refl kept.3 tt (media_kept m.association p q kept) tt
  keys_act key profile active p _ q h = absurd h

  pub cert_acts : (cert : List ℕ) → StageActs m laws.association (ChecksCert {I = I} {D = D} {S = S} {M = M} {E = E} {N = N} cert)
  unfolding ChecksCert
  cert_acts cert p Again q h = still_visit m Again Again p _ q refl h.3 shows_again ((refl, refl, refl, refl, refl), refl, refl)
  cert_acts cert p (Error (RemoteSdp why)) q h =
      still_visit m (Error (RemoteSdp why)) (Error (RemoteSdp why)) p _ q refl h.3 (shows_error (RemoteSdp why)) ((refl, refl, refl, refl, refl), refl, refl)
  cert_acts cert p (Error Alloc) q h = still_visit m (Error Alloc) (Error Alloc) p _ q refl h (shows_error Alloc) ((refl, refl, refl, refl, refl), refl, refl)
  cert_acts cert p _ q h = absurd h

  states_closed : (p q : PolledPeer I D S M N) → q.core.sctp.state ≡ p.core.sctp.state → OnlyActs m.association p.core.sctp q.core.sctp
      → StatesStay m.association p.core.sctp q.core.sctp
  states_closed p q same only = record { established = stay_same p.core.sctp q.core.sctp same; only = only }

  -- closing, met as an event or an error
  pub closing_visit : (r : Met E) (answer : Result (Unit {0}) RtcError) (p q : PolledPeer I D S M N) → contents_met r ≡ [] → MeetsData r q.core.channels []
      → TellsNoOpening (answer_met r) → ClosesPeer m p answer q → VisitDid m p r q
  closing_visit r answer p q none shows unopened h =
      plain_visit m r p q
      (subst (λ (l : List (List ℕ)). PeerDid m nothing_came (p.core.greatest ∷ []) l [] [] p q) (sym none)
      (close_acts m nothing_came (p.core.greatest ∷ []) laws.association p answer q h)) shows (close_rows m p answer q h).0
      (keeps_by m r p.core.channels q.core.channels (ap (λ held. held.rows) (close_rows m p answer q h).1))
      ((close_rows m p answer q h).2, (close_rows m p answer q h).1, states_closed p q (close_rows m p answer q h).3 (close_only m laws.association p answer q h)) unopened

  pub close_notify : StageActs m laws.association (TakesCloseNotify m)
  unfolding TakesCloseNotify
  close_notify p (MetEvent told.Closed) q h =
      visit_on m laws.association (MetEvent told.Closed) p h.0 q
      (quiet_nothing m p h.0 (closing_visit Nothing (Ok tt) p h.0 refl refl tt h.1))
      (still_visit m (MetEvent told.Closed) (MetEvent told.Closed) h.0 _ q refl h.2 (refl, λ held. refl, tt) ((refl, refl, refl, refl, refl), refl, refl))
  close_notify p (Error error) q h = closing_visit (Error error) (Err error) p q refl refl tt h
  close_notify p _ q h = absurd h
