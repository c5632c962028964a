-- Each call that stages or applies keeps a peer formed, by what negotiation reads of it.
use Rattle.std.proofs.Common.{◌≡◌, ℕ, Bool, true, false, List, [], ◌∷◌, ◌++◌, Option, Some, None, Result, Ok, Err, refl, sym, subst}
use Rattle.std.specs.Prelude.{IfSome, filter}
use Rattle.std.specs.declared.alloc.AllocError.{AllocError}
use Rattle.rtc_wire.specs.declared.channel_config.ChannelConfig.{ChannelConfig}
use Rattle.rtc_wire_text.specs.Tokens.{is_short_token}
use Rattle.rtc_sdp_values.specs.declared.direction.Direction.{Direction}
use Rattle.rtc_sdp_values.specs.declared.ice_creds.IceCreds.{IceCreds}
use Rattle.rtc_sdp_values.specs.declared.line_row.LineRow.{LineRow}
use Rattle.rtc_sdp_values.specs.declared.sdp.Sdp.{Sdp}
use Rattle.rtc_change.specs.declared.change.Change.{Change}
use Rattle.rtc_sctp_values.specs.SnapHalves.{KeptHalves}
use Rattle.rtc_channels.specs.Channels.{Channels, with_channel, all_confirmed}
use Rattle.rtc_channels.specs.declared.channel_row.ChannelRow.{ChannelRow}
use Rattle.rtc_change.specs.declared.change.Change.TheVariants.{AddMedia, AddApp, AddChannel, Direction as SetDirection, IceRestart}
use Rattle.rtc_change.specs.PendingOffer.{PendingOffer, added_mids, restart_of}
use Rattle.rtc_change.proofs.AddedLemmas.{added_mids-append}
use Rattle.rtc_peer_rows.specs.RowChanges.{RowChange, changed_of}
use Rattle.rtc_peer_rows.proofs.RowChangeLemmas.{KeepsRow, AreAlike, changed_of_alike}
use Rattle.rtc_peer_core.specs.declared.rtc_error.RtcError.{RtcError}
use Rattle.rtc_peer_core.specs.declared.rtc_error.RtcError.TheVariants.{RemoteSdp, Sdp as SdpRefused, Dtls, Sctp, Net, Media as MediaFailed, ChangesOutOfOrder, BadChannel, Alloc, Glare}
use Rattle.rtc_peer_core.specs.Calls.{Wanted, raised, fitting_channels}
use Rattle.rtc_peer_core.specs.Formed.{HaveTokens, AddTokens, AreFormedChanges, IsFormedChange, IsFormedSimulcast, IsFormed}
use Rattle.rtc_peer_core.specs.LineUpdates.{media_of_change}
use Rattle.rtc_peer_core.specs.Staging.{lacks_app, is_kept_by_restart}
use Rattle.rtc_peer_core.specs.SdpHalves.{offered_snap}
use Rattle.rtc_peer_core.specs.Stance.{Stance}
use Rattle.rtc_peer_core.specs.Undo.{RowBefore}
use Rattle.rtc_peer_core.proofs.Alls.{all-append}
use Rattle.rtc_peer_core.proofs.StanceCalls.{StanceAddsMedia, StanceChangesLine, StanceAddsChannel, StanceStagesRestart, StanceApplies, IsAppFor, stance_alone}

-- ---- staged changes

-- what was staged is dropped
pub lent_formed : (s : Stance) (snap : KeptHalves) → IsFormed s → IsFormed (record s { staged = []; snap = snap })
lent_formed s snap formed = record {
  session = formed.session;
  creds = formed.creds;
  candidates = formed.candidates;
  fingerprint = formed.fingerprint;
  rows = formed.rows;
  staged = tt;
  size = formed.size;
  changes = tt;
  formats = formed.formats;
  media = formed.media;
}

-- with another counter, an offer outstanding or not, other rows noted, and other channels with their rows
pub counted_formed : (s : Stance) (counter : ℕ) (outstanding : Bool) (undo : List RowBefore) (channels : Channels) (rows : List ChannelRow) → IsFormed s → IsFormed (record s { counter = counter; outstanding = outstanding; undo = undo; channels = channels; rows = rows })
counted_formed s counter outstanding undo channels rows formed = record {
  session = formed.session;
  creds = formed.creds;
  candidates = formed.candidates;
  fingerprint = formed.fingerprint;
  rows = formed.rows;
  staged = formed.staged;
  size = formed.size;
  changes = formed.changes;
  formats = formed.formats;
  media = formed.media;
}

-- more is staged
staged_formed : (s : Stance) (more : List Change) → AddTokens more → AreFormedChanges more → IsFormed s
    → IsFormed (record s { staged = s.staged ++ more })
staged_formed s more tokens changes formed = record {
  session = formed.session;
  creds = formed.creds;
  candidates = formed.candidates;
  fingerprint = formed.fingerprint;
  rows = formed.rows;
  staged = rw (added_mids-append s.staged more)
      (all-append (λ mid. is_short_token mid ≡ true) (added_mids s.staged) (added_mids more) formed.staged tokens);
  size = formed.size;
  changes = all-append IsFormedChange s.staged more formed.changes changes;
  formats = formed.formats;
  media = formed.media;
}

-- a change that stages neither a restart nor a line of media
plain_change : (change : Change) → restart_of change ≡ None → media_of_change change ≡ None → IsFormedChange change
plain_change change restart media = record { restart = rw restart tt; media = rw media tt }

-- A line is staged whose layers are formed, where it has any.
pub adds_media_formed : (s : Stance) (wanted : Wanted) (result : Result (List ℕ) AllocError) (t : Stance)
    → StanceAddsMedia s wanted result t → IfSome wanted.simulcast IsFormedSimulcast
    → IsFormed s → IsFormed t
adds_media_formed s wanted (Ok mid) t adds layers formed =
    let token : is_short_token adds.media.mid ≡ true = rw adds.its_mid adds.free.1 in
    rw adds.rest (staged_formed s (AddMedia adds.media ∷ []) (token, tt) (record { restart = tt; media = adds.formed layers }, tt) formed)
adds_media_formed s wanted (Err error) t adds layers formed = rw adds formed

-- the changes that a channel is staged with
channel_tokens : (s : Stance) (needed : Bool) (app : List Change) (id : ℕ) (config : ChannelConfig) → IsAppFor s needed app
    → AddTokens (app ++ AddChannel id config ∷ [])
channel_tokens s true app id config h = rw h.1 (h.2.1, tt)
channel_tokens s false app id config h = rw h tt

channel_changes : (s : Stance) (needed : Bool) (app : List Change) (id : ℕ) (config : ChannelConfig) → IsAppFor s needed app
    → AreFormedChanges (app ++ AddChannel id config ∷ [])
channel_changes s true app id config h = rw h.1 (plain_change (AddApp h.0) refl refl, (plain_change (AddChannel id config) refl refl, tt))
channel_changes s false app id config h = rw h (plain_change (AddChannel id config) refl refl, tt)

pub adds_channel_formed : (s : Stance) (config : ChannelConfig) (result : Result ℕ RtcError) (t : Stance)
    → StanceAddsChannel s config result t
    → IsFormed s → IsFormed t
adds_channel_formed s config (Ok id) t adds formed =
    let needed : Bool = lacks_app s.lines s.staged in
    let more : List Change = adds.app ++ AddChannel id config ∷ [] in
    let tokens : AddTokens more = channel_tokens s needed adds.app id config adds.app_for in
    let changes : AreFormedChanges more = channel_changes s needed adds.app id config adds.app_for in
    rw adds.rest (counted_formed (record s { staged = s.staged ++ more }) s.counter s.outstanding s.undo (with_channel s.channels config)
    (s.rows ++ record { id = id; stream = None; generation = 0; is_open = false } ∷ []) (staged_formed s more tokens changes formed))
adds_channel_formed s config (Err BadChannel) t adds formed = rw adds.1 formed
adds_channel_formed s config (Err Alloc) t adds formed = rw adds formed
adds_channel_formed s config (Err (RemoteSdp why)) t adds formed = absurd adds
adds_channel_formed s config (Err (SdpRefused error)) t adds formed = absurd adds
adds_channel_formed s config (Err (Dtls error)) t adds formed = absurd adds
adds_channel_formed s config (Err (Sctp error)) t adds formed = absurd adds
adds_channel_formed s config (Err (Net cause)) t adds formed = absurd adds
adds_channel_formed s config (Err (MediaFailed cause)) t adds formed = absurd adds
adds_channel_formed s config (Err ChangesOutOfOrder) t adds formed = absurd adds
adds_channel_formed s config (Err Glare) t adds formed = absurd adds

-- rows that are alike have the same mids
pub tokens_alike : (rows others : List LineRow) → AreAlike rows others → HaveTokens rows → HaveTokens others
tokens_alike [] [] alike tokens = tt
tokens_alike (row ∷ rows) (other ∷ others) alike tokens =
    (subst (λ (mid : List ℕ). is_short_token mid ≡ true) (sym alike.0.mid) tokens.0, tokens_alike rows others alike.1 tokens.1)
tokens_alike [] (other ∷ others) alike tokens = absurd alike
tokens_alike (row ∷ rows) [] alike tokens = absurd alike

-- The row of a mid is changed, where its change keeps mids.
pub changes_line_formed : (change : RowChange) (to : Direction) (s : Stance) (mid : List ℕ) (result : Result Bool AllocError) (t : Stance)
    → KeepsRow change → StanceChangesLine change to s mid result t → IsFormed s → IsFormed t
changes_line_formed change to s mid (Ok true) t keeps changes formed =
    let staged = staged_formed s (SetDirection mid to ∷ []) tt (plain_change (SetDirection mid to) refl refl, tt) formed in
    rw changes.1 (record {
      session = staged.session;
      creds = staged.creds;
      candidates = staged.candidates;
      fingerprint = staged.fingerprint;
      rows = tokens_alike s.lines (changed_of change mid s.lines) (changed_of_alike change keeps mid s.lines) formed.rows;
      staged = staged.staged;
      size = staged.size;
      changes = staged.changes;
      formats = formed.formats;
      media = formed.media;
    })
changes_line_formed change to s mid (Ok false) t keeps changes formed = rw changes.1 formed
changes_line_formed change to s mid (Err error) t keeps changes formed = rw changes formed

-- changes without a restart
kept_tokens : (changes : List Change) → AddTokens changes → AddTokens (filter is_kept_by_restart changes)
kept_tokens [] tokens = tt
kept_tokens (AddMedia media ∷ changes) tokens = (tokens.0, kept_tokens changes tokens.1)
kept_tokens (AddApp mid ∷ changes) tokens = (tokens.0, kept_tokens changes tokens.1)
kept_tokens (AddChannel id config ∷ changes) tokens = kept_tokens changes tokens
kept_tokens (SetDirection mid dir ∷ changes) tokens = kept_tokens changes tokens
kept_tokens (IceRestart creds keeps ∷ changes) tokens = kept_tokens changes tokens

kept_changes : (changes : List Change) → AreFormedChanges changes → AreFormedChanges (filter is_kept_by_restart changes)
kept_changes [] formed = tt
kept_changes (AddMedia media ∷ changes) formed = (formed.0, kept_changes changes formed.1)
kept_changes (AddApp mid ∷ changes) formed = (formed.0, kept_changes changes formed.1)
kept_changes (AddChannel id config ∷ changes) formed = (formed.0, kept_changes changes formed.1)
kept_changes (SetDirection mid dir ∷ changes) formed = (formed.0, kept_changes changes formed.1)
kept_changes (IceRestart creds keeps ∷ changes) formed = kept_changes changes formed.1

pub stages_restart_formed : (s : Stance) (keeps : Bool) (result : Result IceCreds AllocError) (t : Stance)
    → StanceStagesRestart s keeps result t
    → IsFormed s → IsFormed t
stages_restart_formed s keeps (Ok creds) t stages formed =
    let kept : Stance = record s { staged = filter is_kept_by_restart s.staged } in
    let before : IsFormed kept = record {
      session = formed.session;
      creds = formed.creds;
      candidates = formed.candidates;
      fingerprint = formed.fingerprint;
      rows = formed.rows;
      staged = kept_tokens s.staged formed.staged;
      size = formed.size;
      changes = kept_changes s.staged formed.changes;
      formats = formed.formats;
      media = formed.media;
    } in
    rw stages.1 (staged_formed kept (IceRestart creds keeps ∷ []) tt (record { restart = stages.0; media = tt }, tt) before)
stages_restart_formed s keeps (Err error) t stages formed = rw stages formed

-- ---- what is applied

alone_formed : (s : Stance) (changes : List Change) → IsFormed s → IsFormed (stance_alone changes s)
alone_formed s [] formed = formed
alone_formed s (change ∷ changes) formed =
    counted_formed (record s { staged = [] }) (raised s.counter) false s.undo (all_confirmed (fitting_channels (change ∷ changes)) s.channels)
    s.rows (lent_formed s s.snap formed)

pub applies_formed : (s : Stance) (result : Result (Option (Sdp × PendingOffer)) AllocError) (t : Stance) → StanceApplies s result t
    → IsFormed s → IsFormed t
applies_formed s (Ok None) t applies formed = rw applies.1 (alone_formed s s.staged formed)
applies_formed s (Ok (Some made)) t applies formed =
    let snap : KeptHalves = offered_snap s applies.half in
    rw applies.rest (counted_formed (record s { staged = []; snap = snap }) (raised s.counter) true [] s.channels s.rows (lent_formed s snap formed))
applies_formed s (Err error) t applies formed = rw applies formed

-- the changes of an offer are formed
pub made_changes : (s : Stance) (made : Sdp × PendingOffer) (t : Stance) → StanceApplies s (Ok (Some made)) t → IsFormed s
    → AreFormedChanges made.1.changes
made_changes s made t applies formed = rw applies.token formed.changes
