-- How many channels a peer has after a call.
use Rattle.std.proofs.Common.{◌≡◌, ◌+◌, ◌≤◌, ℕ, Bool, true, false, List, [], ◌∷◌, length, Result, Ok, Err, refl, ap, ◌∙◌, arith, length-append}
use Rattle.rtc_wire.specs.declared.channel_config.ChannelConfig.{ChannelConfig}
use Rattle.rtc_sdp_values.specs.declared.direction.Direction.{Direction}
use Rattle.rtc_sdp_values.specs.declared.direction.Direction.TheVariants.{Inactive}
use Rattle.rtc_sdp_values.specs.declared.sdp.Sdp.{Sdp}
use Rattle.std.specs.declared.alloc.AllocError.{AllocError}
use Rattle.rtc_channels.specs.Channels.{Channel, Channels, has_channel_id, rows_confirmed, all_confirmed, confirmed, with_channel, unconfirmed}
use Rattle.rtc_change.specs.PendingOffer.{PendingOffer}
use Rattle.rtc_change.specs.declared.change.Change.{Change}
use Rattle.rtc_peer_rows.specs.RowChanges.{RowChange, directed_row, stopped_row, changed_of}
use Rattle.rtc_peer_rows.proofs.RowChangeLemmas.{KeepsRow, changed_of_alike, length-alike, directed_row_keeps, stopped_row_keeps}
use Rattle.rtc_peer_core.specs.declared.peer.Peer.{Peer}
use Rattle.rtc_peer_core.specs.declared.rtc_error.RtcError.{RtcError}
use Rattle.rtc_peer_core.specs.declared.rtc_error.RtcError.TheVariants.{Net, Media as MediaFailed}
use Rattle.rtc_peer_core.specs.declared.rtc_error.RtcError.TheVariants.{RemoteSdp, Sdp as SdpRefused, Dtls, Sctp, ChangesOutOfOrder, BadChannel, Alloc as PeerAlloc, Glare}
use Rattle.rtc_parts.specs.declared.dtls_error.DtlsError.TheVariants.{WouldBlock, Fault, Alloc as DtlsAlloc}
use Rattle.rtc_peer_core.specs.Acceptances.{AcceptsOffer, AcceptsAnswer}
use Rattle.rtc_peer_core.specs.Calls.{ChangesLine, after_channels_alone, fitting_channels}
use Rattle.rtc_run_history.specs.declared.op.Op.{Op}
use Rattle.rtc_run_history.specs.declared.op.Op.TheVariants.{AddMedia, SetDirection, StopMedia, AddChannel, IceRestart}
use Rattle.rtc_run_history.specs.declared.op_answer.OpAnswer.{OpAnswer}
use Rattle.rtc_run_history.specs.declared.op_answer.OpAnswer.TheVariants.{Mid, Changed, NoLine, Channel as NewChannel, Creds, BadChannel as NoChannel, Alloc}
use Rattle.rtc_run_history.specs.Performs.{PerformsOps}
use Rattle.rtc_peer_core.specs.Meanings.{Meanings}

-- a channel that is confirmed stays one
rows_counted : (id : ℕ) (config : ChannelConfig) (channels : List Channel) → length (rows_confirmed id config channels) ≡ length channels
rows_counted id config [] = refl
rows_counted id config (channel ∷ channels) = by (rows_counted id config channels) (has_channel_id id channel) refl
  where
    by : length (rows_confirmed id config channels) ≡ length channels → (test : Bool) → has_channel_id id channel ≡ test
        → length (rows_confirmed id config (channel ∷ channels)) ≡ length (channel ∷ channels)
    by rest true is = rw is refl
    by rest false is = rw (is, rest) refl

all_counted : (channels : List (ℕ × ChannelConfig)) (held : Channels) → length (all_confirmed channels held).rows ≡ length held.rows
all_counted [] held = refl
all_counted (channel ∷ channels) held = all_counted channels (confirmed channel.0 channel.1 held) ∙ rows_counted channel.0 channel.1 held.rows

one_more : (held : Channels) (config : ChannelConfig) → length (with_channel held config).rows ≡ length held.rows + 1
one_more held config = length-append held.rows (unconfirmed held.given config ∷ [])

-- applying channels alone leaves their number, and the lines
pub alone_channels : {I D S M N : Type 0} (changes : List Change) (p : Peer I D S M N) → length (after_channels_alone changes p).channels.rows ≡ length p.channels.rows
alone_channels [] p = refl
alone_channels (change ∷ changes) p = all_counted (fitting_channels (change ∷ changes)) p.channels

pub alone_lines : {I D S M N : Type 0} (changes : List Change) (p : Peer I D S M N) → (after_channels_alone changes p).lines ≡ p.lines
alone_lines [] p = refl
alone_lines (change ∷ changes) p = refl

module _ {I D S M E X T W N : Type 0} (m : Meanings I D S M E X T W N) where
  -- how many channels a peer has
  abbrev channel_count : Peer I D S M N → ℕ
  channel_count p = length p.channels.rows

  -- ---- ops

  changed : (change : RowChange) (to : Direction) (p : Peer I D S M N) (mid : List ℕ) (result : Result Bool AllocError) (q : Peer I D S M N)
      → ChangesLine change to p mid result q → channel_count q ≡ channel_count p
  changed change to p mid (Ok true) q h = ap channel_count h.1
  changed change to p mid (Ok false) q h = ap channel_count h.1
  changed change to p mid (Err error) q h = ap channel_count h

  -- each op adds one channel at most
  pub ops_channels : (p q : Peer I D S M N) (ops : List Op) (answers : List OpAnswer) → PerformsOps m p ops answers q
      → length q.channels.rows ≤ length p.channels.rows + length ops
  ops_channels p q [] [] h = let same : channel_count q ≡ channel_count p = ap channel_count h in omega arith
  ops_channels p q (AddMedia kind dir ∷ ops) (Mid mid ∷ answers) h =
      let same : channel_count h.0 ≡ channel_count p = ap channel_count h.1.1 in
      omega (arith, same, ops_channels h.0 q ops answers h.2)
  ops_channels p q (AddMedia kind dir ∷ ops) (Alloc ∷ []) h = let same : channel_count q ≡ channel_count p = ap channel_count h.1 in omega arith
  ops_channels p q (SetDirection place dir ∷ ops) (NoLine ∷ answers) h = omega (arith, ops_channels p q ops answers h.1)
  ops_channels p q (SetDirection place dir ∷ ops) (Changed is ∷ answers) h =
      let same : channel_count h.0 ≡ channel_count p = changed (directed_row dir) dir p h.1.mid (Ok is) h.0 h.1.called in
      omega (arith, same, ops_channels h.0 q ops answers h.2)
  ops_channels p q (SetDirection place dir ∷ ops) (Alloc ∷ []) h =
      let same : channel_count q ≡ channel_count p = ap channel_count h.called in
      omega arith
  ops_channels p q (StopMedia place ∷ ops) (NoLine ∷ answers) h = omega (arith, ops_channels p q ops answers h.1)
  ops_channels p q (StopMedia place ∷ ops) (Changed is ∷ answers) h =
      let same : channel_count h.0 ≡ channel_count p = changed stopped_row Inactive p h.1.mid (Ok is) h.0 h.1.called in
      omega (arith, same, ops_channels h.0 q ops answers h.2)
  ops_channels p q (StopMedia place ∷ ops) (Alloc ∷ []) h =
      let same : channel_count q ≡ channel_count p = ap channel_count h.called in
      omega arith
  ops_channels p q (AddChannel config ∷ ops) (NewChannel id ∷ answers) h =
      let same : channel_count h.0 ≡ length (with_channel p.channels config).rows = ap channel_count h.1.2 in
      omega (arith, same, one_more p.channels config, ops_channels h.0 q ops answers h.2)
  ops_channels p q (AddChannel config ∷ ops) (NoChannel ∷ answers) h =
      let same : channel_count h.0 ≡ channel_count p = ap channel_count h.1.1 in
      omega (arith, same, ops_channels h.0 q ops answers h.2)
  ops_channels p q (AddChannel config ∷ ops) (Alloc ∷ []) h = let same : channel_count q ≡ channel_count p = ap channel_count h.1 in omega arith
  ops_channels p q (IceRestart keep ∷ ops) (Creds creds ∷ answers) h =
      let same : channel_count h.0 ≡ channel_count p = ap channel_count h.1.1 in
      omega (arith, same, ops_channels h.0 q ops answers h.2)
  ops_channels p q (IceRestart keep ∷ ops) (Alloc ∷ []) h = let same : channel_count q ≡ channel_count p = ap channel_count h.1 in omega arith
  ops_channels p q ops answers h = absurd h

  kept_rows : (change : RowChange) (to : Direction) (p : Peer I D S M N) (mid : List ℕ) (result : Result Bool AllocError) (q : Peer I D S M N)
      → KeepsRow change → ChangesLine change to p mid result q → length q.lines ≡ length p.lines
  kept_rows change to p mid (Ok true) q keeps h = ap (λ r. length r.lines) h.1 ∙ length-alike p.lines (changed_of change mid p.lines) (changed_of_alike change keeps mid p.lines)
  kept_rows change to p mid (Ok false) q keeps h = ap (λ r. length r.lines) h.1
  kept_rows change to p mid (Err error) q keeps h = ap (λ r. length r.lines) h

  -- no op adds a row
  pub ops_rows : (p q : Peer I D S M N) (ops : List Op) (answers : List OpAnswer) → PerformsOps m p ops answers q → length q.lines ≡ length p.lines
  ops_rows p q [] [] h = ap (λ r. length r.lines) h
  ops_rows p q (AddMedia kind dir ∷ ops) (Mid mid ∷ answers) h = ops_rows h.0 q ops answers h.2 ∙ ap (λ r. length r.lines) h.1.1
  ops_rows p q (AddMedia kind dir ∷ ops) (Alloc ∷ []) h = ap (λ r. length r.lines) h.1
  ops_rows p q (SetDirection place dir ∷ ops) (NoLine ∷ answers) h = ops_rows p q ops answers h.1
  ops_rows p q (SetDirection place dir ∷ ops) (Changed is ∷ answers) h =
      ops_rows h.0 q ops answers h.2 ∙ kept_rows (directed_row dir) dir p h.1.mid (Ok is) h.0 (directed_row_keeps dir) h.1.called
  ops_rows p q (SetDirection place dir ∷ ops) (Alloc ∷ []) h = ap (λ r. length r.lines) h.called
  ops_rows p q (StopMedia place ∷ ops) (NoLine ∷ answers) h = ops_rows p q ops answers h.1
  ops_rows p q (StopMedia place ∷ ops) (Changed is ∷ answers) h =
      ops_rows h.0 q ops answers h.2 ∙ kept_rows stopped_row Inactive p h.1.mid (Ok is) h.0 stopped_row_keeps h.1.called
  ops_rows p q (StopMedia place ∷ ops) (Alloc ∷ []) h = ap (λ r. length r.lines) h.called
  ops_rows p q (AddChannel config ∷ ops) (NewChannel id ∷ answers) h = ops_rows h.0 q ops answers h.2 ∙ ap (λ r. length r.lines) h.1.2
  ops_rows p q (AddChannel config ∷ ops) (NoChannel ∷ answers) h = ops_rows h.0 q ops answers h.2 ∙ ap (λ r. length r.lines) h.1.1
  ops_rows p q (AddChannel config ∷ ops) (Alloc ∷ []) h = ap (λ r. length r.lines) h.1
  ops_rows p q (IceRestart keep ∷ ops) (Creds creds ∷ answers) h = ops_rows h.0 q ops answers h.2 ∙ ap (λ r. length r.lines) h.1.1
  ops_rows p q (IceRestart keep ∷ ops) (Alloc ∷ []) h = ap (λ r. length r.lines) h.1
  ops_rows p q ops answers h = absurd h

  -- ---- offers and answers

  pub offer_channels : (p q : Peer I D S M N) (offer : Sdp) (result : Result Sdp RtcError) → AcceptsOffer m p offer result q
      → length q.channels.rows ≡ length p.channels.rows
  offer_channels p q offer (Ok answer) h = ap (λ p. length p.channels.rows) h.rest
  offer_channels p q offer (Err (RemoteSdp why)) h = ap (λ p. length p.channels.rows) h.1.1
  offer_channels p q offer (Err (SdpRefused error)) h = ap (λ p. length p.channels.rows) h.1.1
  offer_channels p q offer (Err (Dtls Fault)) h = ap (λ p. length p.channels.rows) h.rest
  offer_channels p q offer (Err (Dtls WouldBlock)) h = absurd h
  offer_channels p q offer (Err (Dtls DtlsAlloc)) h = absurd h
  offer_channels p q offer (Err (Sctp error)) h = ap (λ p. length p.channels.rows) h.1.rest
  offer_channels p q offer (Err ChangesOutOfOrder) h = absurd h
  offer_channels p q offer (Err (Net cause)) h = absurd h
  offer_channels p q offer (Err (MediaFailed cause)) h = absurd h
  offer_channels p q offer (Err BadChannel) h = absurd h
  offer_channels p q offer (Err Glare) h = ap (λ p. length p.channels.rows) h.1
  offer_channels p q offer (Err PeerAlloc) h = ap (λ p. length p.channels.rows) h.rest

  pub answer_channels : (p q : Peer I D S M N) (token : PendingOffer) (answer : Sdp) (result : Result (Unit {0}) RtcError)
      → AcceptsAnswer m p token answer result q → length q.channels.rows ≡ length p.channels.rows
  answer_channels p q token answer (Ok done) h = ap (λ p. length p.channels.rows) h.rest ∙ all_counted (fitting_channels token.changes) p.channels
  answer_channels p q token answer (Err (RemoteSdp why)) h = ap (λ p. length p.channels.rows) h.1.1
  answer_channels p q token answer (Err (SdpRefused error)) h = ap (λ p. length p.channels.rows) h.1.1
  answer_channels p q token answer (Err (Dtls Fault)) h = ap (λ p. length p.channels.rows) h.rest
  answer_channels p q token answer (Err (Dtls WouldBlock)) h = absurd h
  answer_channels p q token answer (Err (Dtls DtlsAlloc)) h = absurd h
  answer_channels p q token answer (Err (Sctp error)) h = ap (λ p. length p.channels.rows) h.1.rest
  answer_channels p q token answer (Err ChangesOutOfOrder) h = ap (λ p. length p.channels.rows) h.1
  answer_channels p q token answer (Err (Net cause)) h = absurd h
  answer_channels p q token answer (Err (MediaFailed cause)) h = absurd h
  answer_channels p q token answer (Err BadChannel) h = absurd h
  answer_channels p q token answer (Err Glare) h = absurd h
  answer_channels p q token answer (Err PeerAlloc) h = ap (λ p. length p.channels.rows) h.rest
