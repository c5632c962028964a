-- What rolling an offer back makes of what negotiation reads of a peer.
use Rattle.std.specs.Prelude.{◌≢◌}
use Rattle.std.proofs.Common.{◌≡◌, ◌∙◌, ◌==◌, ℕ, Bool, true, false, cond, List, [], ◌∷◌, map, if◌then◌else◌, Result, Ok, Err, refl, ap}
use Rattle.rtc_wire.specs.declared.channel_config.ChannelConfig.{ChannelConfig}
use Rattle.rtc_sctp.specs.Streams.{SctpStreams}
use Rattle.rtc_channels.specs.declared.channel_row.ChannelRow.{ChannelRow}
use Rattle.rtc_channels.specs.Channels.{Channel, Channels, has_channel_id}
use Rattle.rtc_channels.specs.Holds.{all_cancelled, cancelled_if, channels_without, is_unconfirmed}
use Rattle.rtc_change.specs.PendingOffer.{PendingOffer, new_channels}
use Rattle.rtc_sdp_values.specs.declared.direction.Direction.{Direction}
use Rattle.rtc_sdp_values.specs.declared.line_row.LineRow.{LineRow}
use Rattle.rtc_peer_rows.specs.RowChanges.{all_restored, changed_of, dir_restored, restored_row}
use Rattle.rtc_peer_rows.proofs.RowChangeLemmas.{changed_of_alike, restored_row_keeps}
use Rattle.rtc_peer_core.specs.declared.peer.Peer.{Peer}
use Rattle.rtc_peer_core.specs.declared.rtc_error.RtcError.{RtcError}
use Rattle.rtc_peer_core.specs.declared.rtc_error.RtcError.TheVariants.{
  RemoteSdp,
  Sdp as SdpRefused,
  Dtls,
  Sctp,
  Net,
  Media as MediaFailed,
  ChangesOutOfOrder,
  BadChannel,
  Alloc,
  Glare,
}
use Rattle.rtc_peer_core.specs.Calls.{raised}
use Rattle.rtc_peer_core.specs.ChannelRows.{channel_row, channel_rows}
use Rattle.rtc_peer_core.specs.Formed.{HaveTokens, IsFormed}
use Rattle.rtc_peer_core.specs.Meanings.{Meanings}
use Rattle.rtc_peer_core.specs.RollingBack.{RollsBack}
use Rattle.rtc_peer_core.specs.Stance.{Stance, stance_of}
use Rattle.rtc_peer_core.specs.Undo.{RowBefore}
use Rattle.rtc_peer_core.proofs.FormedStances.{tokens_alike}

-- the rows without that of a number, if there is one
abbrev pub rows_without : ℕ → List ChannelRow → List ChannelRow
rows_without id [] = []
rows_without id (row ∷ rows) = if row.id == id then rows else row ∷ rows_without id rows

abbrev pub row_cancelled_if : Bool → ℕ → List ChannelRow → List ChannelRow
row_cancelled_if true id rows = rows_without id rows
row_cancelled_if false id rows = rows

-- the rows of channels of which these are cancelled
abbrev pub rows_cancelled : List (ℕ × ChannelConfig) → Channels → List ChannelRow → List ChannelRow
rows_cancelled [] held rows = rows
rows_cancelled (channel ∷ rest) held rows =
    rows_cancelled rest (cancelled_if (is_unconfirmed channel.0 held.rows) channel.0 held)
    (row_cancelled_if (is_unconfirmed channel.0 held.rows) channel.0 rows)

-- what is left once the offer of a token is rolled back
abbrev pub rolled_back : Stance → PendingOffer → Stance
rolled_back s token = record s {
  counter = raised s.counter;
  outstanding = false;
  lines = all_restored token.undo s.lines;
  channels = all_cancelled (new_channels token.changes) s.channels;
  rows = rows_cancelled (new_channels token.changes) s.channels s.rows;
}

abbrev pub StanceRollsBack : Stance → PendingOffer → Result (Unit {0}) RtcError → Stance → Type 0
StanceRollsBack s token (Ok done) t = (s.counter ≡ raised token.id) × (t ≡ rolled_back s token)
StanceRollsBack s token (Err ChangesOutOfOrder) t = (s.counter ≢ raised token.id) × (t ≡ s)
StanceRollsBack s token (Err (RemoteSdp why)) t = ⊥
StanceRollsBack s token (Err (SdpRefused error)) t = ⊥
StanceRollsBack s token (Err (Dtls error)) t = ⊥
StanceRollsBack s token (Err (Sctp error)) t = ⊥
StanceRollsBack s token (Err (Net cause)) t = ⊥
StanceRollsBack s token (Err (MediaFailed cause)) t = ⊥
StanceRollsBack s token (Err BadChannel) t = ⊥
StanceRollsBack s token (Err Alloc) t = ⊥
StanceRollsBack s token (Err Glare) t = ⊥

-- ---- formed sides

tokens_restored : (undo : List RowBefore) (rows : List LineRow) → HaveTokens rows → HaveTokens (all_restored undo rows)
tokens_restored [] rows tokens = tokens
tokens_restored (was ∷ more) rows tokens =
    let to : Direction = dir_restored was.1 was.2 in
    tokens_restored more (changed_of (restored_row to was.2) was.0 rows)
    (tokens_alike rows (changed_of (restored_row to was.2) was.0 rows)
    (changed_of_alike (restored_row to was.2) (restored_row_keeps to was.2) was.0 rows) tokens)

rolled_formed : (s : Stance) (token : PendingOffer) → IsFormed s → IsFormed (rolled_back s token)
rolled_formed s token formed = record {
  session = formed.session;
  creds = formed.creds;
  candidates = formed.candidates;
  fingerprint = formed.fingerprint;
  rows = tokens_restored token.undo s.lines formed.rows;
  staged = formed.staged;
  changes = formed.changes;
  formats = formed.formats;
  media = formed.media;
  size = formed.size;
}

-- a side that rolls an offer back, or refuses to, stays formed
pub rolled_back_formed : (s : Stance) (token : PendingOffer) (r : Result (Unit {0}) RtcError) (t : Stance) → StanceRollsBack s token r t
    → IsFormed s → IsFormed t
rolled_back_formed s token (Ok done) t h formed = rw h.1 (rolled_formed s token formed)
rolled_back_formed s token (Err ChangesOutOfOrder) t h formed = rw h.1 formed
rolled_back_formed s token (Err (RemoteSdp why)) t h formed = absurd h
rolled_back_formed s token (Err (SdpRefused error)) t h formed = absurd h
rolled_back_formed s token (Err (Dtls error)) t h formed = absurd h
rolled_back_formed s token (Err (Sctp error)) t h formed = absurd h
rolled_back_formed s token (Err (Net cause)) t h formed = absurd h
rolled_back_formed s token (Err (MediaFailed cause)) t h formed = absurd h
rolled_back_formed s token (Err BadChannel) t h formed = absurd h
rolled_back_formed s token (Err Alloc) t h formed = absurd h
rolled_back_formed s token (Err Glare) t h formed = absurd h

-- ---- peers

module _ {I D S M E X T W N : Type 0} (m : Meanings I D S M E X T W N) where
  without_rows : (p : SctpStreams S) (id : ℕ) (channels : List Channel)
      → map (channel_row m.association p) (channels_without id channels) ≡ rows_without id (map (channel_row m.association p) channels)
  without_rows p id [] = refl
  without_rows p id (channel ∷ rest) = by (has_channel_id id channel) (without_rows p id rest)
    where
      by : (here : Bool)
          → map (channel_row m.association p) (channels_without id rest) ≡ rows_without id (map (channel_row m.association p) rest)
          → map (channel_row m.association p) (cond here rest (channel ∷ channels_without id rest))
          ≡ cond here (map (channel_row m.association p) rest)
          (channel_row m.association p channel ∷ rows_without id (map (channel_row m.association p) rest))
      by true same = refl
      by false same = ap (λ (rows : List ChannelRow). channel_row m.association p channel ∷ rows) same

  one_cancelled : (p : SctpStreams S) (here : Bool) (id : ℕ) (held : Channels)
      → channel_rows m.association p (cancelled_if here id held) ≡ row_cancelled_if here id (channel_rows m.association p held)
  one_cancelled p true id held = without_rows p id held.rows
  one_cancelled p false id held = refl

  -- the rows of channels that are cancelled go, and the others stay
  all_cancelled_rows : (p : SctpStreams S) (channels : List (ℕ × ChannelConfig)) (held : Channels)
      → channel_rows m.association p (all_cancelled channels held) ≡ rows_cancelled channels held (channel_rows m.association p held)
  all_cancelled_rows p [] held = refl
  all_cancelled_rows p (channel ∷ rest) held =
      let left : Channels = cancelled_if (is_unconfirmed channel.0 held.rows) channel.0 held in
      all_cancelled_rows p rest left
      ∙ ap (λ (rows : List ChannelRow). rows_cancelled rest left rows) (one_cancelled p (is_unconfirmed channel.0 held.rows) channel.0 held)

  pub rolls_back_stands : (p : Peer I D S M N) (token : PendingOffer) (r : Result (Unit {0}) RtcError) (q : Peer I D S M N) → RollsBack p token r q
      → StanceRollsBack (stance_of m p) token r (stance_of m q)
  rolls_back_stands p token (Ok done) q h = (
    h.0,
    ap (stance_of m) h.1
        ∙ ap (λ (rows : List ChannelRow). record (rolled_back (stance_of m p) token) { rows = rows })
        (all_cancelled_rows p.sctp (new_channels token.changes) p.channels),
  )
  rolls_back_stands p token (Err ChangesOutOfOrder) q h = (h.0, ap (stance_of m) h.1)
  rolls_back_stands p token (Err (RemoteSdp why)) q h = absurd h
  rolls_back_stands p token (Err (SdpRefused error)) q h = absurd h
  rolls_back_stands p token (Err (Dtls error)) q h = absurd h
  rolls_back_stands p token (Err (Sctp error)) q h = absurd h
  rolls_back_stands p token (Err (Net cause)) q h = absurd h
  rolls_back_stands p token (Err (MediaFailed cause)) q h = absurd h
  rolls_back_stands p token (Err BadChannel) q h = absurd h
  rolls_back_stands p token (Err Alloc) q h = absurd h
  rolls_back_stands p token (Err Glare) q h = absurd h
