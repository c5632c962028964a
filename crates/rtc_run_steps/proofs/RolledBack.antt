-- How many rows and channels a peer has once it rolled an offer back, said of the peer that was lent.
use Rattle.std.proofs.Common.{◌≡◌, ◌≤◌, ℕ, Bool, true, false, List, [], ◌∷◌, length, Result, Ok, Err, refl, ap, sym, subst, ◌∙◌, arith}
use Rattle.rtc_wire.specs.declared.channel_config.ChannelConfig.{ChannelConfig}
use Rattle.rtc_sdp_values.specs.declared.direction.Direction.{Direction}
use Rattle.rtc_sdp_values.specs.declared.line_row.LineRow.{LineRow}
use Rattle.rtc_channels.specs.Channels.{Channel, Channels, has_channel_id}
use Rattle.rtc_channels.specs.Holds.{all_cancelled, cancelled_if, channels_without, is_unconfirmed}
use Rattle.rtc_change.specs.PendingOffer.{PendingOffer, new_channels}
use Rattle.rtc_peer_rows.specs.RowChanges.{all_restored, changed_of, dir_restored, restored_row}
use Rattle.rtc_peer_rows.proofs.RowChangeLemmas.{changed_of_alike, length-alike, restored_row_keeps}
use Rattle.rtc_peer_core.specs.declared.peer.Peer.{Peer}
use Rattle.rtc_peer_core.specs.declared.rtc_error.RtcError.{RtcError}
use Rattle.rtc_peer_core.specs.declared.rtc_error.RtcError.TheVariants.{Net, Media as MediaFailed}
use Rattle.rtc_peer_core.specs.declared.rtc_error.RtcError.TheVariants.{RemoteSdp, Sdp as SdpRefused, Dtls, Sctp, ChangesOutOfOrder, BadChannel, Alloc, Glare}
use Rattle.rtc_peer_core.specs.RollingBack.{RollsBack}
use Rattle.rtc_peer_core.specs.Undo.{RowBefore}
use Rattle.rtc_run_history.specs.Performs.{lent}

-- no row is added or goes
all_rows : (undo : List RowBefore) (rows : List LineRow) → length (all_restored undo rows) ≡ length rows
all_rows [] rows = refl
all_rows (was ∷ more) rows =
    let to : Direction = dir_restored was.1 was.2 in
    let changed : List LineRow = changed_of (restored_row to was.2) was.0 rows in
    all_rows more changed ∙ length-alike rows changed (changed_of_alike (restored_row to was.2) (restored_row_keeps to was.2) was.0 rows)

-- and no channel is added
fewer : (id : ℕ) (channels : List Channel) → length (channels_without id channels) ≤ length channels
fewer id [] = omega arith
fewer id (channel ∷ rest) = by (fewer id rest) (has_channel_id id channel) refl
  where
    by : length (channels_without id rest) ≤ length rest → (test : Bool) → has_channel_id id channel ≡ test
        → length (channels_without id (channel ∷ rest)) ≤ length (channel ∷ rest)
    by few true is = rw is (omega arith)
    by few false is = rw is (omega (arith, few))

if_fewer : (test : Bool) (id : ℕ) (held : Channels) → length (cancelled_if test id held).rows ≤ length held.rows
if_fewer true id held = fewer id held.rows
if_fewer false id held = omega arith

all_fewer : (channels : List (ℕ × ChannelConfig)) (held : Channels) → length (all_cancelled channels held).rows ≤ length held.rows
all_fewer [] held = omega arith
all_fewer (channel ∷ rest) held =
    let left : Channels = cancelled_if (is_unconfirmed channel.0 held.rows) channel.0 held in
    let one : length left.rows ≤ length held.rows = if_fewer (is_unconfirmed channel.0 held.rows) channel.0 held in
    let more : length (all_cancelled rest left).rows ≤ length left.rows = all_fewer rest left in
    omega (arith, one, more)

module _ {I D S M N : Type 0} where
  rolled_rows : (p q : Peer I D S M N) (token : PendingOffer) (result : Result (Unit {0}) RtcError) → RollsBack p token result q → length q.lines ≡ length p.lines
  rolled_rows p q token (Ok done) h = ap (λ (x : Peer I D S M N). length x.lines) h.1 ∙ all_rows token.undo p.lines
  rolled_rows p q token (Err ChangesOutOfOrder) h = ap (λ (x : Peer I D S M N). length x.lines) h.1
  rolled_rows p q token (Err (RemoteSdp why)) h = absurd h
  rolled_rows p q token (Err (SdpRefused error)) h = absurd h
  rolled_rows p q token (Err (Dtls error)) h = absurd h
  rolled_rows p q token (Err (Sctp error)) h = absurd h
  rolled_rows p q token (Err (Net cause)) h = absurd h
  rolled_rows p q token (Err (MediaFailed cause)) h = absurd h
  rolled_rows p q token (Err BadChannel) h = absurd h
  rolled_rows p q token (Err Alloc) h = absurd h
  rolled_rows p q token (Err Glare) h = absurd h

  rolled_channels : (p q : Peer I D S M N) (token : PendingOffer) (result : Result (Unit {0}) RtcError) → RollsBack p token result q
      → length q.channels.rows ≤ length p.channels.rows
  rolled_channels p q token (Ok done) h =
      subst (λ (left : Channels). length left.rows ≤ length p.channels.rows) (sym (ap (λ (x : Peer I D S M N). x.channels) h.1))
      (all_fewer (new_channels token.changes) p.channels)
  rolled_channels p q token (Err ChangesOutOfOrder) h =
      let same : length q.channels.rows ≡ length p.channels.rows = ap (λ (x : Peer I D S M N). length x.channels.rows) h.1 in
      omega (arith, same)
  rolled_channels p q token (Err (RemoteSdp why)) h = absurd h
  rolled_channels p q token (Err (SdpRefused error)) h = absurd h
  rolled_channels p q token (Err (Dtls error)) h = absurd h
  rolled_channels p q token (Err (Sctp error)) h = absurd h
  rolled_channels p q token (Err (Net cause)) h = absurd h
  rolled_channels p q token (Err (MediaFailed cause)) h = absurd h
  rolled_channels p q token (Err BadChannel) h = absurd h
  rolled_channels p q token (Err Alloc) h = absurd h
  rolled_channels p q token (Err Glare) h = absurd h

  -- ---- of the peer that was lent

  pub rolled_lent : (old p r q : Peer I D S M N) (token : PendingOffer) (result : Result (Unit {0}) RtcError) → p ≡ lent old → RollsBack p token result r → q ≡ r
      → RollsBack (lent old) token result q
  rolled_lent old p r q token result p_is h same =
      let F : Peer I D S M N → Type 0 = λ (x : Peer I D S M N). RollsBack x token result r in
      let G : Peer I D S M N → Type 0 = λ (x : Peer I D S M N). RollsBack (lent old) token result x in
      subst G (sym same) (subst F p_is h)

  pub rows_of_rollback : (old p r : Peer I D S M N) (token : PendingOffer) (result : Result (Unit {0}) RtcError) (rows : List LineRow) → p ≡ lent old
      → RollsBack p token result r → rows ≡ r.lines → length rows ≡ length old.lines
  rows_of_rollback old p r token result rows p_is h same =
      ap length same ∙ (rolled_rows p r token result h ∙ ap (λ (x : Peer I D S M N). length x.lines) p_is)

  pub channels_of_rollback : (old p r : Peer I D S M N) (token : PendingOffer) (result : Result (Unit {0}) RtcError) (channels : List Channel) → p ≡ lent old
      → RollsBack p token result r → channels ≡ r.channels.rows → length channels ≤ length old.channels.rows
  channels_of_rollback old p r token result channels p_is h same =
      let few : length r.channels.rows ≤ length p.channels.rows = rolled_channels p r token result h in
      let kept : length p.channels.rows ≡ length old.channels.rows = ap (λ (x : Peer I D S M N). length x.channels.rows) p_is in
      let are : length channels ≡ length r.channels.rows = ap length same in
      omega (arith, few, kept, are)
