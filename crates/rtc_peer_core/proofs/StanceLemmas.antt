-- Each call of a peer is one of its stance, whatever its parts are.
use Rattle.std.proofs.Common.{◌≡◌, ◌∙◌, ◌+◌, ◌%◌, ◌^◌, ◌++◌, ℕ, Bool, true, false, List, [], ◌∷◌, length, Option, Some, None, Result, Ok, Err}
use Rattle.std.proofs.Common.{refl, sym, ap, arith}
use Rattle.std.specs.declared.alloc.AllocError.{AllocError}
use Rattle.rtc_wire.specs.declared.channel_config.ChannelConfig.{ChannelConfig}
use Rattle.rtc_wire_text.specs.Tokens.{is_short_token}
use Rattle.rtc_sdp_values.specs.declared.direction.Direction.{Direction}
use Rattle.rtc_sdp_values.specs.declared.fingerprint.Fingerprint.{Fingerprint}
use Rattle.rtc_sdp_values.specs.declared.ice_creds.IceCreds.{IceCreds}
use Rattle.rtc_sdp_values.specs.declared.sdp.Sdp.{Sdp}
use Rattle.rtc_parts.specs.IceMeaning.{IceSettings}
use Rattle.rtc_sctp_values.specs.SnapHalves.{KeptHalves}
use Rattle.rtc_channels.specs.Channels.{with_channel, all_confirmed}
use Rattle.rtc_channels.specs.declared.channel_row.ChannelRow.{ChannelRow}
use Rattle.rtc_change.specs.declared.change.Change.{Change}
use Rattle.rtc_change.specs.declared.change.Change.TheVariants.{AddChannel}
use Rattle.rtc_change.specs.PendingOffer.{PendingOffer, added_mids}
use Rattle.rtc_peer_rows.specs.RowChanges.{RowChange}
use Rattle.rtc_peer_core.specs.declared.peer.Peer.{Peer}
use Rattle.rtc_peer_core.specs.declared.rtc_error.RtcError.{RtcError}
use Rattle.rtc_peer_core.specs.declared.rtc_error.RtcError.TheVariants.{
  RemoteSdp,
  Sdp as SdpRefused,
  Dtls,
  Sctp,
  Net,
  Media as MediaFailed,
  ChangesOutOfOrder,
  BadChannel,
  Alloc,
  Glare,
}
use Rattle.rtc_peer_core.specs.Calls.{Wanted, raised, needs_app, after_channels_alone, staged_mid, staged_media, app_changes, AddsMedia}
use Rattle.rtc_peer_core.specs.Calls.{ChangesLine, AddsChannel, StagesRestart, LacksOffer, Applies, halves_pending, half_drawn}
use Rattle.rtc_peer_core.specs.Calls.{fitting_channels}
use Rattle.rtc_peer_core.specs.SdpHalves.{offered_snap, draws_half}
use Rattle.rtc_peer_core.specs.ChannelRows.{channel_rows}
use Rattle.rtc_peer_core.specs.Meanings.{Meanings, PartsLaws}
use Rattle.rtc_peer_core.specs.Names.{is_held}
use Rattle.rtc_peer_core.specs.Stance.{Stance, stance_of}
use Rattle.rtc_peer_core.proofs.BuiltPeers.{drawn_creds_words}
use Rattle.rtc_peer_core.proofs.ChannelRowLemmas.{added_rows, confirmed_rows, kept_rows}
use Rattle.rtc_peer_core.proofs.DrawnMids.{free_mid_token}
use Rattle.rtc_peer_core.proofs.FormedNames.{staged_media_formed}
use Rattle.rtc_peer_core.proofs.HalfLemmas.{drawn_read_back}
use Rattle.rtc_peer_core.proofs.PartMovesLemmas.{control_settings}
use Rattle.rtc_peer_core.proofs.StanceCalls.{StanceAddsMedia, StanceChangesLine, StanceAddsChannel, StanceStagesRestart, StanceApplies}
use Rattle.rtc_peer_core.proofs.StanceCalls.{IsAppFor, stance_alone}

-- ---- what is staged

-- a mid that is drawn is a short token
staged_mid_token : {I D S M E X T W N : Type 0} (m : Meanings I D S M E X T W N) (p : Peer I D S M N)
    → is_short_token (staged_mid m p) ≡ true
staged_mid_token m p =
    free_mid_token (is_held p.lines p.staged) (length p.lines + length (added_mids p.staged)) (m.ids.drawn p.ids % 2 ^ 32) (omega arith)

pub adds_media_stands : {I D S M E X T W N : Type 0} (m : Meanings I D S M E X T W N) → PartsLaws m → (p : Peer I D S M N) (wanted : Wanted)
    (result : Result (List ℕ) AllocError) (q : Peer I D S M N) → AddsMedia m p wanted result q
    → StanceAddsMedia (stance_of m p) wanted result (stance_of m q)
adds_media_stands m laws p wanted (Ok mid) q h = record {
  media = staged_media m p wanted;
  its_mid = sym h.0;
  kind = refl;
  dir = refl;
  free = (h.2, rw h.0 (staged_mid_token m p));
  formed = staged_media_formed m p wanted;
  rest = ap (stance_of m) h.1;
}
adds_media_stands m laws p wanted (Err error) q h = ap (stance_of m) h.1

pub changes_line_stands : {I D S M E X T W N : Type 0} (m : Meanings I D S M E X T W N) → PartsLaws m
    → (change : RowChange) (to : Direction)
    (p : Peer I D S M N) (mid : List ℕ) (result : Result Bool AllocError) (q : Peer I D S M N) → ChangesLine change to p mid result q
    → StanceChangesLine change to (stance_of m p) mid result (stance_of m q)
changes_line_stands m laws change to p mid (Ok true) q h = (h.0, ap (stance_of m) h.1)
changes_line_stands m laws change to p mid (Ok false) q h = (h.0, ap (stance_of m) h.1)
changes_line_stands m laws change to p mid (Err error) q h = ap (stance_of m) h

app_stands : {I D S M E X T W N : Type 0} (m : Meanings I D S M E X T W N) (p : Peer I D S M N) (needed : Bool)
    → (needed ≡ true → is_held p.lines p.staged (staged_mid m p) ≡ false) → IsAppFor (stance_of m p) needed (app_changes m p needed)
app_stands m p true free = (staged_mid m p, refl, (free refl, staged_mid_token m p))
app_stands m p false free = refl

-- the stance with one channel more
added_stands : {I D S M E X T W N : Type 0} (m : Meanings I D S M E X T W N) (p : Peer I D S M N) (config : ChannelConfig) (id : ℕ)
    (app : List Change) → id ≡ p.channels.given
    → record (stance_of m p) {
      channels = with_channel p.channels config;
      rows = channel_rows m.association p.sctp (with_channel p.channels config);
      staged = p.staged ++ (app ++ AddChannel id config ∷ []);
    }
    ≡ record (stance_of m p) {
      channels = with_channel p.channels config;
      rows = channel_rows m.association p.sctp p.channels ++ record { id = id; stream = None; generation = 0; is_open = false } ∷ [];
      staged = p.staged ++ (app ++ AddChannel id config ∷ []);
    }
added_stands m p config id app number = rw number (ap (λ (rows : List ChannelRow). record (stance_of m p) {
  channels = with_channel p.channels config;
  rows = rows;
  staged = p.staged ++ (app ++ AddChannel p.channels.given config ∷ []);
}) (added_rows m.association p.sctp p.channels config))

pub adds_channel_stands : {I D S M E X T W N : Type 0} (m : Meanings I D S M E X T W N) → PartsLaws m
    → (p : Peer I D S M N) (config : ChannelConfig)
    (result : Result ℕ RtcError) (q : Peer I D S M N) → AddsChannel m p config result q
    → StanceAddsChannel (stance_of m p) config result (stance_of m q)
adds_channel_stands m laws p config (Ok id) q h = record {
  good = h.0;
  number = h.1;
  app = app_changes m p (needs_app p);
  app_for = app_stands m p (needs_app p) h.3;
  rest = ap (stance_of m) h.2 ∙ added_stands m p config id (app_changes m p (needs_app p)) h.1;
}
adds_channel_stands m laws p config (Err BadChannel) q h = (h.0, ap (stance_of m) h.1)
adds_channel_stands m laws p config (Err Alloc) q h = ap (stance_of m) h.1
adds_channel_stands m laws p config (Err (RemoteSdp why)) q h = absurd h
adds_channel_stands m laws p config (Err (SdpRefused error)) q h = absurd h
adds_channel_stands m laws p config (Err (Dtls error)) q h = absurd h
adds_channel_stands m laws p config (Err (Sctp error)) q h = absurd h
adds_channel_stands m laws p config (Err (Net cause)) q h = absurd h
adds_channel_stands m laws p config (Err (MediaFailed cause)) q h = absurd h
adds_channel_stands m laws p config (Err ChangesOutOfOrder) q h = absurd h
adds_channel_stands m laws p config (Err Glare) q h = absurd h

pub stages_restart_stands : {I D S M E X T W N : Type 0} (m : Meanings I D S M E X T W N) → PartsLaws m
    → (p : Peer I D S M N) (keeps : Bool)
    (result : Result IceCreds AllocError) (q : Peer I D S M N) → StagesRestart m p keeps result q
    → StanceStagesRestart (stance_of m p) keeps result (stance_of m q)
stages_restart_stands m laws p keeps (Ok creds) q h = (rw h.0 (drawn_creds_words (m.ids.drawn p.ids)), ap (stance_of m) h.1)
stages_restart_stands m laws p keeps (Err error) q h = ap (stance_of m) h.1

alone_stands : {I D S M E X T W N : Type 0} (m : Meanings I D S M E X T W N) (p : Peer I D S M N) (changes : List Change)
    → stance_of m (after_channels_alone changes p) ≡ stance_alone changes (stance_of m p)
alone_stands m p [] = refl
alone_stands m p (change ∷ changes) = ap (λ (rows : List ChannelRow). record (stance_of m p) {
  staged = [];
  counter = raised p.counter;
  outstanding = false;
  channels = all_confirmed (fitting_channels (change ∷ changes)) p.channels;
  rows = rows;
}) (confirmed_rows m.association p.sctp (fitting_channels (change ∷ changes)) p.channels)

-- the parts that an acceptance moves are read by their settings, their fingerprint, their role, the rows over them, and the start of the
-- association
pub parts_stand : (s : Stance) (ice ice' : IceSettings) (own own' : Fingerprint) (role role' : Option Bool) (rows rows' : List ChannelRow)
    (most most' : ℕ) (inited inited' : Bool) (snap snap' : KeptHalves) → ice ≡ ice' → own ≡ own' → role ≡ role' → rows ≡ rows' → most ≡ most'
    → inited ≡ inited' → snap ≡ snap'
    → record s { ice = ice; own_fingerprint = own; role = role; rows = rows; max_message_size = most; inited = inited; snap = snap }
    ≡ record s { ice = ice'; own_fingerprint = own'; role = role'; rows = rows'; max_message_size = most'; inited = inited'; snap = snap' }
parts_stand s ice ice' own own' role role' rows rows' most most' inited inited' snap snap' a b c d e f g = rw (a, b, c, d, e, f, g) refl

-- numbers that may have been drawn for an offer are not read
lacks_stands : {I D S M E X T W N : Type 0} (m : Meanings I D S M E X T W N) (draws : Bool) (p q : Peer I D S M N)
    → LacksOffer m draws p q → stance_of m q ≡ stance_of m p
lacks_stands m true p q h = ap (stance_of m) h.1
lacks_stands m false p q h = ap (stance_of m) h

pub applies_stands : {I D S M E X T W N : Type 0} (m : Meanings I D S M E X T W N) → PartsLaws m → (p : Peer I D S M N)
    (result : Result (Option (Sdp × PendingOffer)) AllocError) (q : Peer I D S M N) → Applies m p result q
    → StanceApplies (stance_of m p) result (stance_of m q)
applies_stands m laws p (Ok None) q h = (h.0, ap (stance_of m) h.1 ∙ alone_stands m p p.staged)
applies_stands m laws p (Ok (Some made)) q h = record {
  offers = h.0;
  half = half_drawn m p;
  reads = drawn_read_back m.ids (halves_pending m p).limit p.ids;
  offered = h.1;
  token = h.2;
  rest = ap (stance_of m) h.4
      ∙ parts_stand (record (stance_of m p) {
        staged = [];
        undo = [];
        counter = raised p.counter;
        outstanding = true;
        snap = offered_snap (stance_of m p) (half_drawn m p);
      }) _ _ _ _ _ _ _ _ _ _ _ _ _ _
      (control_settings m.ice laws.ice p.ice q.ice _ h.3) refl refl
      (kept_rows m.association p.sctp (offered_snap (stance_of m p) (half_drawn m p)) p.channels) refl refl refl;
}
applies_stands m laws p (Err error) q h = lacks_stands m (draws_half (stance_of m p)) p q h
