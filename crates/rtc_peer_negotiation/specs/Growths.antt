-- What an acceptance makes ready before the ICE agent and the DTLS part are touched.
use Rattle.std.specs.Prelude.{◌≡◌, Bool, true, false, List, [], Option, Some, None, Result, Ok, Err}
use Rattle.std.specs.Option.{option_or}
use Rattle.std.specs.declared.alloc.AllocError.{AllocError}
use Rattle.rtc_sdp_values.specs.Sdp.{creds_of, candidates_of, sdp_fingerprint}
use Rattle.rtc_sdp_values.specs.declared.ice_creds.IceCreds.{IceCreds}
use Rattle.rtc_sdp_values.specs.declared.sdp.Sdp.{Sdp}
use Rattle.rtc_change.specs.PendingOffer.{staged_restart}
use Rattle.rtc_change.specs.declared.change.Change.{Change}
use Rattle.rtc_peer_core.specs.declared.peer.Peer.{Peer}
use Rattle.rtc_peer_core.specs.Acceptances.{followed_restart, answer_ids, updates_for, halves_for, ids_after_halves, init_answered}
use Rattle.rtc_parts.specs.Draws.{Later}
use Rattle.rtc_peer_core.specs.Calls.{control_for}
use Rattle.rtc_peer_core.specs.MadeSdp.{answer_sdp}
use Rattle.rtc_peer_core.specs.Meanings.{Meanings}
use Rattle.rtc_peer_core.specs.Stance.{stance_of}
use Rattle.rtc_peer_core.specs.StoppedAcceptances.{StopsPreparing}
use Rattle.rtc_peer_negotiation.specs.declared.following.Following.{Following}
use Rattle.rtc_peer_negotiation.specs.declared.growth.Growth.{Growth}
use Rattle.rtc_peer_negotiation.specs.declared.starting.Starting.{Starting}

-- what is followed of a session description
abbrev pub following_of : Option (IceCreds × Bool) → Sdp → Option Bool → Following
following_of restart sdp control = record {
  restart = restart;
  creds = creds_of sdp;
  candidates = candidates_of sdp;
  control = control;
}

-- nothing is made ready yet but a restart, the control and a start
abbrev pub begun_growth : Option (IceCreds × Bool) → Option Bool → Starting → Growth
begun_growth restart control starting = record {
  answer = None;
  following = record { restart = restart; creds = None; candidates = []; control = control };
  starting = starting;
  fingerprint = None;
}

module _ {I D S M E X T W N : Type 0} (m : Meanings I D S M E X T W N) where
  -- numbers are drawn for the SSRCs of lines, and then for this side's SNAP INIT chunk; nothing else changes
  pub record DrawsAlong (p : Peer I D S M N) (offer may : Bool) (changes : List Change) (sdp : Sdp) (q : Peer I D S M N) : Type 0 where
    pub some : Later m.ids p.ids q.ids
    pub most : Later m.ids q.ids (ids_after_halves m p offer may changes sdp p.ids)
    pub others : q ≡ record p { ids = q.ids }

  abbrev pub GrowsOffer : Peer I D S M N → Sdp → Result Growth AllocError → Peer I D S M N → Type 0
  GrowsOffer p offer (Ok growth) q =
      (growth ≡ record {
        answer = Some (answer_sdp (stance_of m p) (followed_restart m p offer)
            (updates_for m p true [] offer (answer_ids m p offer)) (init_answered m p offer) offer);
        following = following_of (followed_restart m p offer) offer (control_for p.dtls.active offer.ice_lite);
        starting = record { halves = halves_for m p true true [] offer (answer_ids m p offer); drops = false };
        fingerprint = option_or p.fingerprint (sdp_fingerprint offer);
      })
      × m.media.prepared p.media (updates_for m p true [] offer (answer_ids m p offer)) (Ok tt) q.media
      × (q ≡ record p { ids = ids_after_halves m p true true [] offer (answer_ids m p offer); media = q.media })
  GrowsOffer p offer (Err error) q = StopsPreparing m p true true [] offer (answer_ids m p offer) q

  abbrev pub GrowsAnswer : Peer I D S M N → (may : Bool) → List Change → Sdp → Result Growth AllocError → Peer I D S M N → Type 0
  GrowsAnswer p may changes answer (Ok growth) q =
      (growth ≡ record {
        answer = None;
        following = following_of (staged_restart changes) answer None;
        starting = record { halves = halves_for m p false may changes answer p.ids; drops = true };
        fingerprint = option_or p.fingerprint (sdp_fingerprint answer);
      })
      × m.media.prepared p.media (updates_for m p false changes answer p.ids) (Ok tt) q.media
      × (q ≡ record p { ids = ids_after_halves m p false may changes answer p.ids; media = q.media })
  GrowsAnswer p may changes answer (Err error) q = StopsPreparing m p false may changes answer p.ids q
