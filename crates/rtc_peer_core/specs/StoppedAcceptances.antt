-- The place at which the acceptance of an offer or an answer stops that runs out of memory.
use Rattle.std.specs.Prelude.{◌≡◌, Bool, not, List, Option, None, Ok, Err}
use Rattle.std.specs.declared.alloc.AllocError.{AllocError}
use Rattle.rtc_sdp_values.specs.Sdp.{creds_of, candidates_of, sdp_setup, max_message_size_of}
use Rattle.rtc_sdp_values.specs.declared.ice_creds.IceCreds.{IceCreds}
use Rattle.rtc_sdp_values.specs.declared.sdp.Sdp.{Sdp}
use Rattle.rtc_peer_rows.specs.ParsedLines.{parsed_lines}
use Rattle.rtc_change.specs.declared.change.Change.{Change}
use Rattle.rtc_change.specs.Held.{Asked}
use Rattle.rtc_change.specs.Plans.{verdict, is_offer, may_take_init}
use Rattle.rtc_change.specs.TableAfter.{table_after}
use Rattle.rtc_parts.specs.Draws.{Later}
use Rattle.rtc_peer_core.specs.declared.peer.Peer.{Peer}
use Rattle.rtc_peer_core.specs.MadeSdp.{role_for, role_after}
use Rattle.rtc_peer_core.specs.Meanings.{Meanings}
use Rattle.rtc_peer_core.specs.PartMoves.{StopsMoving, remote_limit}
use Rattle.rtc_peer_core.specs.SdpMoves.{updates_for, halves_for, ids_after_halves}
use Rattle.rtc_peer_core.specs.Stance.{stance_of, held_by}

module _ {I D S M E X T W N : Type 0} (m : Meanings I D S M E X T W N) where
  -- Memory runs out before the agent, the DTLS part and the association are touched: before SSRCs are drawn, among the draws of these and
  -- of this side's SNAP INIT chunk, or as the media part prepares its updates. What is drawn before SSRCs is given.
  pub data StopsPreparing (p : Peer I D S M N) (offer may : Bool) (changes : List Change) (sdp : Sdp) (drawn : N) (q : Peer I D S M N)
      : Type 0 where
    BeforeSources : q ≡ record p { ids = drawn } → StopsPreparing p offer may changes sdp drawn q
    AmongDraws : Later m.ids drawn q.ids → Later m.ids q.ids (ids_after_halves m p offer may changes sdp drawn)
        → q ≡ record p { ids = q.ids }
        → StopsPreparing p offer may changes sdp drawn q
    AtUpdates : (error : AllocError) → m.media.prepared p.media (updates_for m p offer changes sdp drawn) (Err error) q.media
        → q ≡ record p { ids = ids_after_halves m p offer may changes sdp drawn; media = q.media }
        → StopsPreparing p offer may changes sdp drawn q

  -- Memory runs out as an offer or an answer is judged, which changes nothing; as what its acceptance needs is prepared; or, once the
  -- media part has prepared its updates, as the other parts follow.
  pub data StopsAccepting (p : Peer I D S M N) (asked : Option Asked) (changes : List Change) (sdp : Sdp)
      (restart : Option (IceCreds × Bool)) (control : Option Bool) (drawn : N) (q : Peer I D S M N) : Type 0 where
    AtVerdict : q ≡ p → StopsAccepting p asked changes sdp restart control drawn q
    AtPreparing : verdict (held_by (stance_of m p)) asked sdp ≡ None
        → StopsPreparing p (is_offer asked) (may_take_init asked) changes sdp drawn q
        → StopsAccepting p asked changes sdp restart control drawn q
    AtParts : verdict (held_by (stance_of m p)) asked sdp ≡ None
        → q.ids ≡ ids_after_halves m p (is_offer asked) (may_take_init asked) changes sdp drawn
        → m.media.prepared p.media (updates_for m p (is_offer asked) changes sdp drawn) (Ok tt) q.media
        → StopsMoving m.ice m.dtls m.association p.ice p.dtls p.sctp restart (creds_of sdp) (candidates_of sdp) control
        (role_for (sdp_setup sdp)) (table_after p.lines (parsed_lines sdp) (is_offer asked)) (role_after p.dtls.active (sdp_setup sdp))
        p.greatest (remote_limit (max_message_size_of sdp)) (halves_for m p (is_offer asked) (may_take_init asked) changes sdp drawn)
        (not (is_offer asked)) q.ice q.dtls q.sctp
        → StopsAccepting p asked changes sdp restart control drawn q
