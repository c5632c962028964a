-- What an acceptance that ran out of memory leaves of the parts of a peer, wherever it stopped.
use Rattle.std.proofs.Common.{◌≡◌, ◌⊎◌, inl, inr, Bool, List, Option, Result, Ok, Err, ap}
use Rattle.rtc_sdp_values.specs.Sdp.{sdp_setup}
use Rattle.rtc_sdp_values.specs.declared.ice_creds.IceCreds.{IceCreds}
use Rattle.rtc_sdp_values.specs.declared.sdp.Sdp.{Sdp}
use Rattle.rtc_parts.specs.IceLaws.{IceLaws}
use Rattle.rtc_parts.specs.declared.dtls_error.DtlsError.{DtlsError}
use Rattle.rtc_parts.specs.MediaLaws.{MediaLaws, SameLines}
use Rattle.rtc_change.specs.declared.change.Change.{Change}
use Rattle.rtc_change.specs.Held.{Asked}
use Rattle.rtc_change.specs.Plans.{is_offer, may_take_init}
use Rattle.rtc_sctp_values.specs.declared.sctp_error.SctpError.{SctpError}
use Rattle.rtc_peer_core.specs.declared.peer.Peer.{Peer}
use Rattle.rtc_peer_core.specs.MadeSdp.{role_for}
use Rattle.rtc_peer_core.specs.Meanings.{Meanings}
use Rattle.rtc_peer_core.specs.PartMoves.{StartsDtls}
use Rattle.rtc_peer_core.specs.SdpMoves.{StartsBySdp, halves_for}
use Rattle.rtc_peer_core.specs.StoppedAcceptances.{
  StopsPreparing,
  BeforeSources,
  AmongDraws,
  AtUpdates,
  StopsAccepting,
  AtVerdict,
  AtPreparing,
  AtParts,
}
use Rattle.rtc_peer_core.proofs.PartMovesLemmas.{AreLeft, left_same, left_stopped, dtls_stopped, sctp_stopped, start_keeps_local}

module _ {I D S M E X T W N : Type 0} (m : Meanings I D S M E X T W N) where
  -- as it is prepared, it touches the source of numbers and the media part
  pub preparing_rest : (p : Peer I D S M N) (offer may : Bool) (changes : List Change) (sdp : Sdp) (drawn : N) (q : Peer I D S M N)
      → StopsPreparing m p offer may changes sdp drawn q → q ≡ record p { ids = q.ids; media = q.media }
  preparing_rest p offer may changes sdp drawn q (BeforeSources is) =
      ap (λ (x : Peer I D S M N). record x { ids = q.ids; media = q.media }) is
  preparing_rest p offer may changes sdp drawn q (AmongDraws some few is) =
      ap (λ (x : Peer I D S M N). record x { ids = q.ids; media = q.media }) is
  preparing_rest p offer may changes sdp drawn q (AtUpdates error lacks is) =
      ap (λ (x : Peer I D S M N). record x { ids = q.ids; media = q.media }) is

  same_media : (p q : M) → q ≡ p → SameLines m.media p q
  same_media p q same = record {
    lines = λ mid. ap (λ (r : M). m.media.line r mid) same;
    used = λ ssrc. ap (λ (r : M). m.media.used r ssrc) same;
  }

  preparing_media : MediaLaws m.media → (p : Peer I D S M N) (offer may : Bool) (changes : List Change) (sdp : Sdp) (drawn : N)
      (q : Peer I D S M N) → StopsPreparing m p offer may changes sdp drawn q → SameLines m.media p.media q.media
  preparing_media laws p offer may changes sdp drawn q (BeforeSources is) =
      same_media p.media q.media (ap (λ (x : Peer I D S M N). x.media) is)
  preparing_media laws p offer may changes sdp drawn q (AmongDraws some few is) =
      same_media p.media q.media (ap (λ (x : Peer I D S M N). x.media) is)
  preparing_media laws p offer may changes sdp drawn q (AtUpdates error lacks is) =
      laws.prepare_same p.media q.media _ (Err error) lacks

  -- the agent is as it was, or has followed as far as it came
  pub stopped_ice : IceLaws m.ice → (p : Peer I D S M N) (asked : Option Asked) (changes : List Change) (sdp : Sdp)
      (restart : Option (IceCreds × Bool)) (control : Option Bool) (drawn : N) (q : Peer I D S M N)
      → StopsAccepting m p asked changes sdp restart control drawn q
      → AreLeft (m.ice.settings p.ice) restart (m.ice.settings q.ice)
  stopped_ice laws p asked changes sdp restart control drawn q (AtVerdict is) =
      left_same _ _ restart (ap (λ (x : Peer I D S M N). m.ice.settings x.ice) is)
  stopped_ice laws p asked changes sdp restart control drawn q (AtPreparing passes stops) =
      left_same _ _ restart (ap (λ (x : Peer I D S M N). m.ice.settings x.ice) (preparing_rest p _ _ changes sdp drawn q stops))
  stopped_ice laws p asked changes sdp restart control drawn q (AtParts passes ids prepared moves) =
      left_stopped m.ice m.dtls m.association laws p.ice q.ice p.dtls q.dtls p.sctp q.sctp restart _ _ control _ _ _ _ _ _ _ moves

  -- the DTLS part is as it was, or was started with one answer or another
  pub stopped_dtls : (p : Peer I D S M N) (asked : Option Asked) (changes : List Change) (sdp : Sdp)
      (restart : Option (IceCreds × Bool)) (control : Option Bool) (drawn : N) (q : Peer I D S M N)
      → StopsAccepting m p asked changes sdp restart control drawn q
      → (q.dtls ≡ p.dtls)
      ⊎ ((r : Result (Unit {0}) DtlsError) × StartsDtls m.dtls p.dtls p.dtls.active (role_for (sdp_setup sdp)) p.greatest r q.dtls)
  stopped_dtls p asked changes sdp restart control drawn q (AtVerdict is) = inl (ap (λ (x : Peer I D S M N). x.dtls) is)
  stopped_dtls p asked changes sdp restart control drawn q (AtPreparing passes stops) =
      inl (ap (λ (x : Peer I D S M N). x.dtls) (preparing_rest p _ _ changes sdp drawn q stops))
  stopped_dtls p asked changes sdp restart control drawn q (AtParts passes ids prepared moves) =
      dtls_stopped m.ice m.dtls m.association p.ice q.ice p.dtls q.dtls p.sctp q.sctp restart _ _ control _ _ _ _ _ _ _ moves

  -- the association is as it was, or its start was refused
  pub stopped_sctp : (p : Peer I D S M N) (asked : Option Asked) (changes : List Change) (sdp : Sdp)
      (restart : Option (IceCreds × Bool)) (control : Option Bool) (drawn : N) (q : Peer I D S M N)
      → StopsAccepting m p asked changes sdp restart control drawn q
      → (q.sctp ≡ p.sctp)
      ⊎ ((error : SctpError)
      × StartsBySdp m p (is_offer asked) sdp (halves_for m p (is_offer asked) (may_take_init asked) changes sdp drawn) (Err error) q.sctp)
  stopped_sctp p asked changes sdp restart control drawn q (AtVerdict is) = inl (ap (λ (x : Peer I D S M N). x.sctp) is)
  stopped_sctp p asked changes sdp restart control drawn q (AtPreparing passes stops) =
      inl (ap (λ (x : Peer I D S M N). x.sctp) (preparing_rest p _ _ changes sdp drawn q stops))
  stopped_sctp p asked changes sdp restart control drawn q (AtParts passes ids prepared moves) =
      sctp_stopped m.ice m.dtls m.association p.ice q.ice p.dtls q.dtls p.sctp q.sctp restart _ _ control _ _ _ _ _ _ _ moves

  -- its certificate stays
  pub stopped_local : (p : Peer I D S M N) (asked : Option Asked) (changes : List Change) (sdp : Sdp)
      (restart : Option (IceCreds × Bool)) (control : Option Bool) (drawn : N) (q : Peer I D S M N)
      → StopsAccepting m p asked changes sdp restart control drawn q → q.dtls.local ≡ p.dtls.local
  stopped_local p asked changes sdp restart control drawn q h = by (stopped_dtls p asked changes sdp restart control drawn q h)
    where
      by : (q.dtls ≡ p.dtls)
          ⊎ ((r : Result (Unit {0}) DtlsError) × StartsDtls m.dtls p.dtls p.dtls.active (role_for (sdp_setup sdp)) p.greatest r q.dtls)
          → q.dtls.local ≡ p.dtls.local
      by (inl same) = ap (λ d. d.local) same
      by (inr starts) = start_keeps_local m.dtls p.dtls q.dtls _ _ _ starts.0 starts.1

  -- the lines of the media part and the sources in use stay
  pub stopped_media : MediaLaws m.media → (p : Peer I D S M N) (asked : Option Asked) (changes : List Change) (sdp : Sdp)
      (restart : Option (IceCreds × Bool)) (control : Option Bool) (drawn : N) (q : Peer I D S M N)
      → StopsAccepting m p asked changes sdp restart control drawn q → SameLines m.media p.media q.media
  stopped_media laws p asked changes sdp restart control drawn q (AtVerdict is) =
      same_media p.media q.media (ap (λ (x : Peer I D S M N). x.media) is)
  stopped_media laws p asked changes sdp restart control drawn q (AtPreparing passes stops) =
      preparing_media laws p _ _ changes sdp drawn q stops
  stopped_media laws p asked changes sdp restart control drawn q (AtParts passes ids prepared moves) =
      laws.prepare_same p.media q.media _ (Ok tt) prepared
