-- What an acceptance makes of a stance: the restart that it follows, the halves of a start, what the media part is told, and what is left
-- where it stops.
use Rattle.std.proofs.Common.{◌≡◌, ◌∙◌, ℕ, Bool, List, true, false, Option, Ok, refl, ap}
use Rattle.std.specs.Prelude.{is_some, IfSome}
use Rattle.std.proofs.Math.Path.{fun_ext}
use Rattle.rtc_sdp_values.specs.Sdp.{creds_of}
use Rattle.rtc_sdp_values.specs.declared.fingerprint.Fingerprint.{Fingerprint}
use Rattle.rtc_sdp_values.specs.declared.ice_creds.IceCreds.{IceCreds}
use Rattle.rtc_sdp_values.specs.declared.sdp.Sdp.{Sdp}
use Rattle.rtc_parts.specs.Draws.{Draws}
use Rattle.rtc_parts.specs.IceMeaning.{IceSettings}
use Rattle.rtc_parts.specs.MediaLaws.{SameLines}
use Rattle.rtc_parts.specs.MediaUpdates.{line_after}
use Rattle.rtc_parts.specs.declared.media_update.MediaUpdate.{MediaUpdate}
use Rattle.rtc_sctp_values.specs.InitChunk.{drawn_chunk}
use Rattle.rtc_sctp_values.specs.SnapHalves.{KeptHalves}
use Rattle.rtc_channels.specs.declared.channel_row.ChannelRow.{ChannelRow}
use Rattle.rtc_change.specs.declared.refusal.Refusal.{Refusal}
use Rattle.rtc_change.specs.Held.{Asked}
use Rattle.rtc_change.specs.declared.change.Change.{Change}
use Rattle.rtc_change.specs.Plans.{is_restart}
use Rattle.rtc_peer_core.specs.declared.peer.Peer.{Peer}
use Rattle.rtc_peer_core.specs.Acceptances.{Refuses, followed_restart, updates_for, ids_after_updates, halves_for, UpdatesMedia}
use Rattle.rtc_peer_core.specs.Creds.{new_creds}
use Rattle.rtc_peer_core.specs.Formed.{AreSdpCreds}
use Rattle.rtc_peer_core.specs.Meanings.{Meanings, PartsLaws}
use Rattle.rtc_peer_core.specs.SdpHalves.{pending_halves}
use Rattle.rtc_peer_core.specs.SdpMoves.{chunk_told}
use Rattle.rtc_peer_core.specs.Stance.{Stance, stance_of}
use Rattle.rtc_peer_core.proofs.BuiltPeers.{drawn_creds_words}
use Rattle.rtc_peer_core.proofs.PartMovesLemmas.{AreLeft}
use Rattle.rtc_peer_core.proofs.FormedUpdates.{told_updates_formed}
use Rattle.rtc_peer_core.proofs.HalfLemmas.{drawn_read_back, joined_same}
use Rattle.rtc_peer_core.proofs.StanceTaken.{StanceRefuses, Breaks, IsFollowed, Joins, TellsMedia}

pub refuses_stands : {I D S M E X T W N : Type 0} (m : Meanings I D S M E X T W N) (p : Peer I D S M N) (asked : Option Asked) (sdp : Sdp)
    (why : Refusal)
    (q : Peer I D S M N) → Refuses m p asked sdp why q → StanceRefuses (stance_of m p) asked sdp why (stance_of m q)
refuses_stands m p asked sdp why q h = (h.0, ap (stance_of m) h.1)

-- the restart by which an offer is followed has drawn credentials
new_creds_there : {N : Type 0} (draws : Draws N) (ids : N) (restarts : Bool) → is_some (new_creds draws ids restarts) ≡ restarts
new_creds_there draws ids true = refl
new_creds_there draws ids false = refl

new_creds_keep : {N : Type 0} (draws : Draws N) (ids : N) (restarts : Bool) → IfSome (new_creds draws ids restarts) (λ r. r.1 ≡ true)
new_creds_keep draws ids true = refl
new_creds_keep draws ids false = tt

new_creds_words : {N : Type 0} (draws : Draws N) (ids : N) (restarts : Bool)
    → IfSome (new_creds draws ids restarts) (λ r. AreSdpCreds r.0)
new_creds_words draws ids true = drawn_creds_words (draws.drawn ids)
new_creds_words draws ids false = tt

pub followed_stands : {I D S M E X T W N : Type 0} (m : Meanings I D S M E X T W N) (p : Peer I D S M N) (offer : Sdp)
    → IsFollowed (stance_of m p) offer (followed_restart m p offer)
followed_stands m p offer =
    let restarts : Bool = is_restart (m.ice.settings p.ice).remote (creds_of offer) in
    record {
      there = new_creds_there m.ids p.ids restarts;
      keeps = new_creds_keep m.ids p.ids restarts;
      tokens = new_creds_words m.ids p.ids restarts;
    }

-- the halves of a start have this side's half, a drawn one where there was none
pub joins_stand : {I D S M E X T W N : Type 0} (m : Meanings I D S M E X T W N) (p : Peer I D S M N) (offer may : Bool) (changes : List Change)
    (sdp : Sdp) (ids : N) → Joins (stance_of m p) may sdp (halves_for m p offer may changes sdp ids)
joins_stand m p offer may changes sdp ids = record {
  half = drawn_chunk m.ids (pending_halves (stance_of m p)).limit (ids_after_updates m p offer changes sdp ids);
  reads = drawn_read_back m.ids (pending_halves (stance_of m p)).limit (ids_after_updates m p offer changes sdp ids);
  joined = joined_same m.ids (stance_of m p) (chunk_told m p may sdp) (ids_after_updates m p offer changes sdp ids);
}

-- what is left where a part failed or memory lacked
pub breaks_by : (s : Stance) (restart : Option (IceCreds × Bool)) (counter : ℕ) (ice : IceSettings) (own : Fingerprint) (role : Option Bool)
    (rows : List ChannelRow) (most : ℕ) (inited : Bool) (snap : KeptHalves) (line : List ℕ → Option MediaUpdate) (t : Stance)
    → t ≡ record s {
      counter = counter;
      outstanding = false;
      ice = ice;
      own_fingerprint = own;
      role = role;
      rows = rows;
      max_message_size = most;
      inited = inited;
      snap = snap;
      line = line;
    }
    → own ≡ s.own_fingerprint → rows ≡ s.rows → most ≡ s.max_message_size → inited ≡ s.inited → snap ≡ s.snap → line ≡ s.line
    → AreLeft s.ice restart ice → Breaks s restart counter t
breaks_by s restart counter ice own role rows most inited snap line t is same shown size begun halves kept left =
    rw (is, same, shown, size, begun, halves, kept) (record {
      lite = left.lite;
      local = left.local;
      candidates = left.candidates;
      rest = refl;
    })

-- the media part is told of a description, and applies it
pub tells_media : {I D S M E X T W N : Type 0} (m : Meanings I D S M E X T W N) → PartsLaws m → (p q : Peer I D S M N) (offer : Bool)
    (changes : List Change) (sdp : Sdp) (ids : N) → UpdatesMedia m p.media (updates_for m p offer changes sdp ids) q.media
    → TellsMedia (stance_of m p) changes sdp (updates_for m p offer changes sdp ids) (stance_of m q)
tells_media m laws p q offer changes sdp ids h =
    let updates : List MediaUpdate = updates_for m p offer changes sdp ids in
    record {
      lines = λ mid.
          laws.media.commit_lines h.prepared q.media mid h.by_commit
          ∙ ap (λ (us : List MediaUpdate). line_after us mid (m.media.line h.prepared mid))
          (laws.media.prepare_pending p.media h.prepared updates h.by_prepare)
          ∙ ap (λ (before : Option MediaUpdate). line_after updates mid before)
          ((laws.media.prepare_same p.media h.prepared updates (Ok tt) h.by_prepare).lines mid);
      formed = told_updates_formed m p offer changes sdp ids;
    }

-- updates that are prepared change no line
pub prepared_lines : {I D S M E X T W N : Type 0} (m : Meanings I D S M E X T W N) → PartsLaws m → (p q : M) (updates : List MediaUpdate)
    → m.media.prepared p updates (Ok tt) q → m.media.line q ≡ m.media.line p
prepared_lines m laws p q updates h = fun_ext (λ mid. (laws.media.prepare_same p q updates (Ok tt) h).lines mid)

pub same_lines : {I D S M E X T W N : Type 0} (m : Meanings I D S M E X T W N) (p q : M) → SameLines m.media p q
    → m.media.line q ≡ m.media.line p
same_lines m p q h = fun_ext (λ mid. h.lines mid)
