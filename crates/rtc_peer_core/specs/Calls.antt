-- What each call of a peer that stages or applies changes does: one relation a call, of the peer before, the arguments, the result and the
-- peer after.
use Rattle.std.specs.Prelude.{◌≡◌, ◌+◌, ◌%◌, ◌^◌, ℕ, Bool, true, false, List, [], ◌∷◌, ◌++◌, codes, filter, not, is_some, Option}
use Rattle.std.specs.Prelude.{Some, None, Result, Ok, Err}
use Rattle.std.specs.declared.alloc.AllocError.{AllocError}
use Rattle.rtc_wire.specs.declared.channel_config.ChannelConfig.{ChannelConfig}
use Rattle.rtc_wire.specs.ChannelConfig.{fits_open_message}
use Rattle.rtc_sdp_values.specs.declared.direction.Direction.{Direction}
use Rattle.rtc_sdp_values.specs.declared.direction.Direction.TheVariants.{Inactive}
use Rattle.rtc_sdp_values.specs.declared.ice_creds.IceCreds.{IceCreds}
use Rattle.rtc_sdp_values.specs.declared.line_row.LineRow.{LineRow}
use Rattle.rtc_sdp_values.specs.declared.media_kind.MediaKind.{MediaKind}
use Rattle.rtc_sdp_values.specs.declared.sdp.Sdp.{Sdp}
use Rattle.rtc_sdp_values.specs.declared.simulcast.Simulcast.{Simulcast}
use Rattle.rtc_channels.specs.Channels.{is_bad_channel, with_channel, all_confirmed}
use Rattle.rtc_change.specs.declared.add_media.AddMedia.{AddMedia as Media}
use Rattle.rtc_change.specs.declared.change.Change.{Change}
use Rattle.rtc_change.specs.declared.change.Change.TheVariants.{AddMedia, AddChannel, Direction as SetDirection}
use Rattle.rtc_change.specs.PendingOffer.{PendingOffer, do_offer, new_channels}
use Rattle.rtc_peer_rows.specs.RowChanges.{RowChange, directed_row, stopped_row, is_changed, changed_of}
use Rattle.rtc_peer_rows.specs.Table.{row_of}
use Rattle.rtc_parts.specs.Draws.{Later}
use Rattle.rtc_sdp_values.specs.Sdp.{sdp_sctp_init}
use Rattle.rtc_sctp_values.specs.InitChunk.{drawn_chunk}
use Rattle.rtc_sctp_values.specs.InitHalves.{InitHalves, after_half}
use Rattle.rtc_sctp_values.specs.SnapHalves.{halves_or_none}
use Rattle.rtc_peer_core.specs.declared.peer.Peer.{Peer}
use Rattle.rtc_peer_core.specs.declared.rtc_error.RtcError.{RtcError}
use Rattle.rtc_peer_core.specs.declared.rtc_error.RtcError.TheVariants.{
  RemoteSdp,
  Sdp as SdpRefused,
  Dtls,
  Sctp,
  Net,
  Media as MediaFailed,
  ChangesOutOfOrder,
  BadChannel,
  Alloc,
  Glare,
}
use Rattle.rtc_peer_core.specs.Creds.{drawn_creds}
use Rattle.rtc_peer_core.specs.Meanings.{Meanings}
use Rattle.rtc_peer_core.specs.MadeSdp.{offer_sdp}
use Rattle.rtc_peer_core.specs.SdpHalves.{tells_half, draws_half, offer_init, offered_snap}
use Rattle.rtc_peer_core.specs.Stance.{stance_of}
use Rattle.rtc_peer_core.specs.Names.{is_held, next_mid, kept_name, name_of, after_name}
use Rattle.rtc_peer_core.specs.PartMoves.{TakesControl}
use Rattle.rtc_peer_core.specs.Sources.{has_source, next_pairs, after_pairs, pair_count}
use Rattle.rtc_peer_core.specs.Staging.{lacks_app, lacking_app, after_app, with_restart}
use Rattle.rtc_peer_core.specs.Undo.{RowBefore, noted}

-- the counter after one more offer
abbrev pub raised : ℕ → ℕ
raised counter = (counter + 1) % 2 ^ 64

-- What a media line is staged with.
pub record Wanted : Type 0 where
  pub kind : MediaKind
  pub dir : Direction
  pub stream : Option (List ℕ)
  pub track : Option (List ℕ)
  pub simulcast : Option Simulcast

-- whether channels that are staged need a line: neither a row nor a staged line is one of data channels
abbrev pub needs_app : {I D S M N : Type 0} → Peer I D S M N → Bool
needs_app p = lacks_app p.lines p.staged

-- the rows that are noted once the row of a mid is set or stopped
abbrev pub noted_of : Option LineRow → List RowBefore → List RowBefore
noted_of None undo = undo
noted_of (Some row) undo = noted row undo

-- The row of a mid is changed at once; if it is changed, its new direction is staged, and the row noted as it was.
abbrev pub ChangesLine : {I D S M N : Type 0} → RowChange → Direction → Peer I D S M N → List ℕ → Result Bool AllocError
    → Peer I D S M N → Type 0
ChangesLine change to p mid (Ok true) q =
    (is_changed change (row_of p.lines mid) ≡ true)
    × (q ≡ record p {
      lines = changed_of change mid p.lines;
      staged = p.staged ++ SetDirection mid to ∷ [];
      undo = noted_of (row_of p.lines mid) p.undo;
    })
ChangesLine change to p mid (Ok false) q = (is_changed change (row_of p.lines mid) ≡ false) × (q ≡ p)
ChangesLine change to p mid (Err error) q = q ≡ p

-- The direction of a live media line is set.
abbrev pub SetsDirection : {I D S M N : Type 0} → Peer I D S M N → List ℕ → Direction → Result Bool AllocError → Peer I D S M N
    → Type 0
SetsDirection p mid dir result q = ChangesLine (directed_row dir) dir p mid result q

-- A live media line is stopped for good.
abbrev pub StopsMedia : {I D S M N : Type 0} → Peer I D S M N → List ℕ → Result Bool AllocError → Peer I D S M N → Type 0
StopsMedia p mid result q = ChangesLine stopped_row Inactive p mid result q

-- the channels that changes add, but those that no open message has room for; a peer stages none of these
abbrev pub fitting_channels : List Change → List (ℕ × ChannelConfig)
fitting_channels changes = filter (λ channel. fits_open_message channel.1) (new_channels changes)

-- the peer once channels alone were applied: they are confirmed, and the counter is raised; nothing happens if nothing is staged
abbrev pub after_channels_alone : {I D S M N : Type 0} → List Change → Peer I D S M N → Peer I D S M N
after_channels_alone [] p = p
after_channels_alone (change ∷ changes) p = record p {
  staged = [];
  counter = raised p.counter;
  outstanding = false;
  channels = all_confirmed (fitting_channels (change ∷ changes)) p.channels;
}

-- which side is controlling is determined while there is no DTLS role
abbrev pub control_for : Option Bool → Bool → Option Bool
control_for None on = Some on
control_for (Some role) on = None

module _ {I D S M E X T W N : Type 0} (m : Meanings I D S M E X T W N) where
  -- Memory ran out: numbers may have been drawn, and nothing else has changed.
  abbrev pub LacksMemory : Peer I D S M N → Peer I D S M N → Type 0
  LacksMemory p q = Later m.ids p.ids q.ids × (q ≡ record p { ids = q.ids })

  -- whether a stream of a peer has an SSRC
  abbrev pub uses_source : Peer I D S M N → ℕ → Bool
  uses_source p n = has_source m.media p.media n

  -- the draws of a staged line, in their order: its mid, the name of its stream, that of its track, its SSRCs
  abbrev pub mid_drawn : N → N
  mid_drawn ids = m.ids.after ids

  abbrev pub stream_drawn : N → Wanted → N
  stream_drawn ids wanted = after_name m.ids (kept_name wanted.stream) (mid_drawn ids)

  abbrev pub track_drawn : N → Wanted → N
  track_drawn ids wanted = after_name m.ids (kept_name wanted.track) (stream_drawn ids wanted)

  abbrev pub staged_mid : Peer I D S M N → List ℕ
  staged_mid p = next_mid m.ids p.lines p.staged p.ids

  abbrev pub track_name : Peer I D S M N → Wanted → List ℕ
  track_name p wanted = name_of m.ids (codes "t") (kept_name wanted.track) (stream_drawn p.ids wanted)

  -- the line that is staged; the name of its SSRCs is that of its track
  abbrev pub staged_media : Peer I D S M N → Wanted → Media
  staged_media p wanted = record {
    mid = staged_mid p;
    cname = track_name p wanted;
    msid = record {
      stream_id = name_of m.ids (codes "s") (kept_name wanted.stream) (mid_drawn p.ids);
      track_id = track_name p wanted;
    };
    kind = wanted.kind;
    dir = wanted.dir;
    ssrcs = next_pairs m.ids (uses_source p) wanted.kind [] (pair_count wanted.simulcast) (track_drawn p.ids wanted);
    simulcast = wanted.simulcast;
  }

  -- A media line is staged, with a mid that no row and no staged line has.
  abbrev pub AddsMedia : Peer I D S M N → Wanted → Result (List ℕ) AllocError → Peer I D S M N → Type 0
  AddsMedia p wanted (Ok mid) q =
      (mid ≡ staged_mid p)
      × (q ≡ record p {
        staged = p.staged ++ AddMedia (staged_media p wanted) ∷ [];
        ids = after_pairs m.ids (uses_source p) wanted.kind (pair_count wanted.simulcast) (track_drawn p.ids wanted);
      })
      × (is_held p.lines p.staged mid ≡ false)
  AddsMedia p wanted (Err error) q = LacksMemory p q

  -- the m-line of data channels that a channel is staged with, if one is needed
  abbrev pub app_changes : Peer I D S M N → Bool → List Change
  app_changes p needed = lacking_app m.ids p.lines p.staged p.ids needed

  -- A channel is staged, with the m-line of data channels if one is needed.
  abbrev pub AddsChannel : Peer I D S M N → ChannelConfig → Result ℕ RtcError → Peer I D S M N → Type 0
  AddsChannel p config (Ok id) q =
      (is_bad_channel p.channels config ≡ false)
      × (id ≡ p.channels.given)
      × (q ≡ record p {
        channels = with_channel p.channels config;
        staged = p.staged ++ (app_changes p (needs_app p) ++ AddChannel id config ∷ []);
        ids = after_app m.ids p.ids (needs_app p);
      })
      × (needs_app p ≡ true → is_held p.lines p.staged (staged_mid p) ≡ false)
  AddsChannel p config (Err BadChannel) q = (is_bad_channel p.channels config ≡ true) × (q ≡ p)
  AddsChannel p config (Err Alloc) q = LacksMemory p q
  AddsChannel p config (Err (RemoteSdp why)) q = ⊥
  AddsChannel p config (Err (SdpRefused error)) q = ⊥
  AddsChannel p config (Err (Dtls error)) q = ⊥
  AddsChannel p config (Err (Sctp error)) q = ⊥
  AddsChannel p config (Err (Net cause)) q = ⊥
  AddsChannel p config (Err (MediaFailed cause)) q = ⊥
  AddsChannel p config (Err ChangesOutOfOrder) q = ⊥
  AddsChannel p config (Err Glare) q = ⊥

  -- A restart of ICE is staged, in place of one that was; its credentials are drawn.
  abbrev pub StagesRestart : Peer I D S M N → Bool → Result IceCreds AllocError → Peer I D S M N → Type 0
  StagesRestart p keeps (Ok creds) q =
      (creds ≡ drawn_creds (m.ids.drawn p.ids))
      × (q ≡ record p { staged = with_restart creds keeps p.staged; ids = m.ids.after p.ids })
  StagesRestart p keeps (Err error) q = LacksMemory p q

  -- the pending SNAP INIT chunks, or else empty ones
  abbrev pub halves_pending : Peer I D S M N → InitHalves
  halves_pending p = halves_or_none p.sctp.local_max p.sctp.snap.pending

  -- this side's chunk that an offer carries, if it is drawn for it
  abbrev pub half_drawn : Peer I D S M N → List ℕ
  half_drawn p = drawn_chunk m.ids (halves_pending p).limit p.ids

  abbrev pub ids_after_told : Bool → Peer I D S M N → N
  ids_after_told true p = after_half m.ids (halves_pending p).local p.ids
  ids_after_told false p = p.ids

  abbrev pub ids_after_offer : Peer I D S M N → N
  ids_after_offer p = ids_after_told (tells_half (stance_of m p)) p

  -- Memory ran out as an offer was made: numbers may have been drawn if it draws a chunk, and nothing else has changed.
  abbrev pub LacksOffer : Bool → Peer I D S M N → Peer I D S M N → Type 0
  LacksOffer true p q = LacksMemory p q
  LacksOffer false p q = q ≡ p

  -- What is staged is applied: it is offered, unless it is channels alone. The SNAP INIT chunk that the offer carries is then pending
  -- (draft-hancke-tsvwg-snap). While there is no DTLS role, the side that offers is controlling, unless it is lite (RFC 8445, section
  -- 6.1.1).
  abbrev pub Applies : Peer I D S M N → Result (Option (Sdp × PendingOffer)) AllocError → Peer I D S M N → Type 0
  Applies p (Ok None) q = (do_offer p.staged ≡ false) × (q ≡ after_channels_alone p.staged p)
  Applies p (Ok (Some made)) q =
      (do_offer p.staged ≡ true)
      × (made.0 ≡ offer_sdp (stance_of m p) (offer_init (stance_of m p) (half_drawn p)))
      × (made.1 ≡ record { id = p.counter; changes = p.staged; says_init = is_some (sdp_sctp_init made.0); undo = p.undo })
      × TakesControl m.ice p.ice (control_for p.dtls.active (not (m.ice.settings p.ice).lite)) q.ice
      × (q ≡ record p {
        staged = [];
        undo = [];
        counter = raised p.counter;
        outstanding = true;
        ice = q.ice;
        sctp = record p.sctp { snap = offered_snap (stance_of m p) (half_drawn p) };
        ids = ids_after_offer p;
      })
  Applies p (Err error) q = LacksOffer (draws_half (stance_of m p)) p q
