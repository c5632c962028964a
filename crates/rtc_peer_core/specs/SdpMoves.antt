-- What the parts of a peer are given of an offer or an answer, and how they follow it.
use Rattle.std.specs.Prelude.{ℕ, Bool, true, not, List, [], length, take, Option, None, Result, Ok}
use Rattle.rtc_sdp_values.specs.Sdp.{creds_of, candidates_of, sdp_setup, sdp_sctp_init, max_message_size_of}
use Rattle.rtc_sdp_values.specs.declared.ice_creds.IceCreds.{IceCreds}
use Rattle.rtc_sdp_values.specs.declared.line_row.LineRow.{LineRow}
use Rattle.rtc_sdp_values.specs.declared.sdp.Sdp.{Sdp}
use Rattle.rtc_sctp.specs.Streams.{SctpStreams}
use Rattle.rtc_sctp_values.specs.declared.sctp_error.SctpError.{SctpError}
use Rattle.rtc_sctp_values.specs.InitHalves.{InitHalves}
use Rattle.rtc_sctp_values.specs.SnapHalves.{halves_of, after_halves_of}
use Rattle.rtc_parts.specs.declared.media_update.MediaUpdate.{MediaUpdate}
use Rattle.rtc_change.specs.declared.change.Change.{Change}
use Rattle.rtc_peer_rows.specs.ParsedLines.{parsed_lines}
use Rattle.rtc_change.specs.PendingOffer.{PendingOffer, staged_restart}
use Rattle.rtc_change.specs.Plans.{is_restart}
use Rattle.rtc_change.specs.TableAfter.{table_after}
use Rattle.rtc_peer_core.specs.declared.peer.Peer.{Peer}
use Rattle.rtc_peer_core.specs.declared.sending.Sending.{Sending}
use Rattle.rtc_peer_core.specs.Calls.{control_for, uses_source}
use Rattle.rtc_peer_core.specs.Creds.{new_creds, after_new_creds}
use Rattle.rtc_peer_core.specs.LineUpdates.{line_sending, row_updates, after_updates}
use Rattle.rtc_peer_core.specs.MadeSdp.{role_after}
use Rattle.rtc_peer_core.specs.Meanings.{Meanings}
use Rattle.rtc_peer_core.specs.SdpHalves.{told_chunk, answer_init}
use Rattle.rtc_peer_core.specs.PartMoves.{FollowsSdp, StartsSctp, remote_limit}

module _ {I D S M E X T W N : Type 0} (m : Meanings I D S M E X T W N) where
  -- The rows that an offer or an answer leaves start the association, if they are the first with an m-line of data channels: as client if
  -- this side has the active DTLS role, and by these chunks if they are there. An answer that starts nothing drops pending chunks.
  abbrev pub StartsBySdp : Peer I D S M N → Bool → Sdp → Option InitHalves → Result (Unit {0}) SctpError → SctpStreams S → Type 0
  StartsBySdp p offer sdp halves r s =
      StartsSctp m.association p.sctp (table_after p.lines (parsed_lines sdp) offer) (role_after p.dtls.active (sdp_setup sdp)) p.greatest
      (remote_limit (max_message_size_of sdp)) halves (not offer) r s

  -- the rows that the lines of a session description leave
  abbrev pub rows_of_sdp : Peer I D S M N → Bool → Sdp → List LineRow
  rows_of_sdp p offer sdp = take (length sdp.lines) (table_after p.lines (parsed_lines sdp) offer)

  -- what is sent on the line of a mid, by what the media part has of it and by what was staged
  abbrev pub sends_on : Peer I D S M N → List Change → List ℕ → Sending
  sends_on p changes mid = line_sending (m.media.line p.media) changes mid

  -- what the media part is given, with numbers drawn from these
  abbrev pub updates_for : Peer I D S M N → Bool → List Change → Sdp → N → List MediaUpdate
  updates_for p offer changes sdp ids =
      row_updates m.ids (uses_source m p) (sends_on p changes) p.formats offer p.lines (rows_of_sdp p offer sdp) sdp.lines [] ids

  abbrev pub ids_after_updates : Peer I D S M N → Bool → List Change → Sdp → N → N
  ids_after_updates p offer changes sdp ids =
      after_updates m.ids (uses_source m p) (sends_on p changes) (rows_of_sdp p offer sdp) sdp.lines ids

  -- the other side's SNAP INIT chunk of a session description
  abbrev pub chunk_told : Peer I D S M N → (may : Bool) → Sdp → Option (List ℕ)
  chunk_told p may sdp = told_chunk (m.association.started p.sctp.association) may (sdp_sctp_init sdp)

  -- both chunks of a start with it: this side's is drawn after the SSRCs, if it is missing
  abbrev pub halves_for : Peer I D S M N → (offer may : Bool) → List Change → Sdp → N → Option InitHalves
  halves_for p offer may changes sdp ids =
      halves_of m.ids p.sctp.local_max p.sctp.snap (chunk_told p may sdp) (ids_after_updates p offer changes sdp ids)

  abbrev pub ids_after_halves : Peer I D S M N → (offer may : Bool) → List Change → Sdp → N → N
  ids_after_halves p offer may changes sdp ids =
      after_halves_of m.ids p.sctp.local_max p.sctp.snap (chunk_told p may sdp) (ids_after_updates p offer changes sdp ids)

  -- the media part is given the lines, and applies what it was given
  pub record UpdatesMedia (p : M) (updates : List MediaUpdate) (q : M) : Type 0 where
    pub prepared : M
    pub by_prepare : m.media.prepared p updates (Ok tt) prepared
    pub by_commit : m.media.committed prepared q

  -- the restart by which a peer follows that of an offer
  abbrev pub followed_restart : Peer I D S M N → Sdp → Option (IceCreds × Bool)
  followed_restart p offer = new_creds m.ids p.ids (is_restart (m.ice.settings p.ice).remote (creds_of offer))

  -- new credentials are drawn before SSRCs
  abbrev pub answer_ids : Peer I D S M N → Sdp → N
  answer_ids p offer = after_new_creds m.ids p.ids (is_restart (m.ice.settings p.ice).remote (creds_of offer))

  -- the text of a chunk that an answer carries
  abbrev pub init_answered : Peer I D S M N → Sdp → Option (List ℕ)
  init_answered p offer =
      answer_init (m.association.started p.sctp.association) p.sctp.snap (halves_for p true true [] offer (answer_ids p offer))

  -- the agent follows an offer; while there is no DTLS role, this side is controlling exactly if the other one is lite
  abbrev pub FollowsOffer : Peer I D S M N → Sdp → Peer I D S M N → Type 0
  FollowsOffer p offer q =
      FollowsSdp m.ice p.ice (followed_restart p offer) (creds_of offer) (candidates_of offer)
      (control_for p.dtls.active offer.ice_lite) q.ice

  -- the agent follows an answer: if its offer restarted ICE, the credentials that were offered are taken
  abbrev pub FollowsAnswer : Peer I D S M N → PendingOffer → Sdp → Peer I D S M N → Type 0
  FollowsAnswer p token answer q =
      FollowsSdp m.ice p.ice (staged_restart token.changes) (creds_of answer) (candidates_of answer) None q.ice
