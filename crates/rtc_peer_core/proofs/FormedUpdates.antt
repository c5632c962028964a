-- What the media part is told of the lines of a description is formed, and so is what it then has of lines.
use Rattle.std.proofs.Common.{◌≡◌, inr, ℕ, zero, suc, Bool, true, false, cond, List, [], ◌∷◌, length, take, Option, Some, None, refl, arith}
use Rattle.std.specs.Prelude.{IfSome, IsSome, option_map}
use Rattle.std.specs.Option.{option_or}
use Rattle.std.specs.List.{AllByRecursion}
use Rattle.std.specs.Str.{bytes_eq}
use Rattle.rtc_wire_text.specs.Tokens.{is_token, is_short_token}
use Rattle.rtc_wire_text.proofs.TokenLemmas.{both}
use Rattle.rtc_sdp_values.specs.LineRow.{row_mid}
use Rattle.rtc_sdp_values.specs.declared.line_row.LineRow.{LineRow}
use Rattle.rtc_sdp_values.specs.declared.line_row.LineRow.TheVariants.{Media, App}
use Rattle.rtc_sdp_values.specs.declared.media_line.MediaLine.{MediaLine}
use Rattle.rtc_sdp_values.specs.declared.sdp.Sdp.{Sdp}
use Rattle.rtc_sdp_values.specs.declared.simulcast.Simulcast.{Simulcast}
use Rattle.rtc_sdp_codecs.proofs.FormedLemmas.{matched_formed, shared_formed}
use Rattle.rtc_parts.specs.Draws.{Draws}
use Rattle.rtc_parts.specs.declared.media_update.MediaUpdate.{MediaUpdate}
use Rattle.rtc_parts.specs.MediaUpdates.{same_mid, update_mid, latest, removed_by, line_after}
use Rattle.rtc_change.specs.declared.add_media.AddMedia.{AddMedia as AddedMedia}
use Rattle.rtc_change.specs.declared.change.Change.{Change}
use Rattle.rtc_change.specs.declared.change.Change.TheVariants.{AddMedia, AddApp, AddChannel, Direction as SetDirection, IceRestart}
use Rattle.rtc_change.specs.TableAfter.{table_after}
use Rattle.rtc_peer_rows.specs.ParsedLines.{parsed_lines}
use Rattle.rtc_peer_core.specs.declared.formats.Formats.{Formats}
use Rattle.rtc_peer_core.specs.declared.peer.Peer.{Peer}
use Rattle.rtc_peer_core.specs.declared.sending.Sending.{Sending}
use Rattle.rtc_peer_core.specs.Calls.{uses_source}
use Rattle.rtc_peer_core.specs.Formats.{AreFormedFormats}
use Rattle.rtc_peer_core.specs.Formed.{
  HaveTokens,
  IsFormedSimulcast,
  IsFormedMsid,
  IsFormedSource,
  IsFormedUpdate,
  IsFormedAdded,
  AreFormedChanges,
  IsTakenLine,
  IsFormed,
}
use Rattle.rtc_peer_core.specs.LineUpdates.{
  added_media,
  sending_of,
  inverted,
  layered,
  wants_sources,
  row_kind,
  first_row,
  rows_behind,
  row_update,
  if_media,
  row_pairs,
  after_row,
  row_updates,
}
use Rattle.rtc_peer_core.specs.Meanings.{Meanings}
use Rattle.rtc_peer_core.specs.SdpMoves.{rows_of_sdp, sends_on, updates_for}
use Rattle.rtc_peer_core.specs.Sources.{Pair, pair_count, next_pairs}
use Rattle.rtc_peer_core.specs.Stance.{stance_of}
use Rattle.rtc_peer_core.proofs.Alls.{all-append}
use Rattle.rtc_peer_core.proofs.FormedNames.{pairs_formed}
use Rattle.rtc_peer_core.proofs.TokenTables.{NameTokens, table_after_tokens}

-- ---- what is sent on a line

-- what is sent under names that are tokens, by layers and sources that lines carry whole
pub record IsFormedSending (sending : Sending) : Type 0 where
  pub simulcast : IfSome sending.simulcast IsFormedSimulcast
  pub msid : IfSome sending.msid IsFormedMsid
  pub has_msid : IsSome sending.msid
  pub cname : IfSome sending.cname (λ name. is_token name ≡ true)
  pub has_cname : IsSome sending.cname
  pub ssrcs : AllByRecursion IsFormedSource sending.ssrcs

sending_formed : (held : Option MediaUpdate) (added : Option AddedMedia) (mid : List ℕ) → IfSome held IsFormedUpdate
    → IfSome added IsFormedAdded → is_token mid ≡ true → IsFormedSending (sending_of held added mid)
sending_formed (Some update) added mid held staged token = record {
  simulcast = held.carried.simulcast;
  msid = held.carried.msid;
  has_msid = held.has_msid;
  cname = held.carried.cname;
  has_cname = held.has_cname;
  ssrcs = held.carried.ssrcs;
}
sending_formed None (Some media) mid held staged token = record {
  simulcast = tt;
  msid = staged.msid;
  has_msid = refl;
  cname = staged.cname;
  has_cname = refl;
  ssrcs = staged.ssrcs;
}
sending_formed None None mid held staged token = record {
  simulcast = tt;
  msid = record { stream = token; track = token };
  has_msid = refl;
  cname = token;
  has_cname = refl;
  ssrcs = tt;
}

inverted_formed : (simulcast : Simulcast) → IsFormedSimulcast simulcast → IsFormedSimulcast (inverted simulcast)
inverted_formed simulcast h = record { some = omega (arith, h.some); send = h.recv; recv = h.send }

layers_formed : (own remote : Option Simulcast) → IfSome own IsFormedSimulcast → IfSome remote IsFormedSimulcast
    → IfSome (option_or own (option_map inverted remote)) IsFormedSimulcast
layers_formed (Some own) remote h k = h
layers_formed None None h k = tt
layers_formed None (Some remote) h k = inverted_formed remote k

layered_formed : (line : MediaLine) (sending : Sending) → IfSome line.simulcast IsFormedSimulcast → IsFormedSending sending
    → IsFormedSending (layered line sending)
layered_formed line sending layers formed = record {
  simulcast = layers_formed sending.simulcast line.simulcast formed.simulcast layers;
  msid = formed.msid;
  has_msid = formed.has_msid;
  cname = formed.cname;
  has_cname = formed.has_cname;
  ssrcs = formed.ssrcs;
}

-- the line that changes add carries what is formed
pub added_media_formed : (changes : List Change) (mid : List ℕ) → AreFormedChanges changes → IfSome (added_media changes mid) IsFormedAdded
added_media_formed [] mid formed = tt
added_media_formed (AddMedia media ∷ changes) mid formed = by (bytes_eq media.mid mid) refl (added_media_formed changes mid formed.1)
  where
    by : (b : Bool) → bytes_eq media.mid mid ≡ b → IfSome (added_media changes mid) IsFormedAdded
        → IfSome (added_media (AddMedia media ∷ changes) mid) IsFormedAdded
    by true is rest = rw is formed.0.media
    by false is rest = rw is rest
added_media_formed (AddApp other ∷ changes) mid formed = added_media_formed changes mid formed.1
added_media_formed (AddChannel id config ∷ changes) mid formed = added_media_formed changes mid formed.1
added_media_formed (SetDirection other dir ∷ changes) mid formed = added_media_formed changes mid formed.1
added_media_formed (IceRestart creds keeps ∷ changes) mid formed = added_media_formed changes mid formed.1

-- ---- updates

row_update_formed : (formats : Formats) (offer : Bool) (before : Option LineRow) (row : LineRow) (line : MediaLine) (sending : Sending)
    (drawn : List Pair) → AreFormedFormats formats → IsTakenLine line → IsFormedSending sending → AllByRecursion IsFormedSource drawn
    → IsFormedUpdate (row_update formats offer before row line sending drawn)
row_update_formed formats offer before row line sending drawn own taken sent more = record {
  carried = record {
    payloads = matched_formed (row_kind row) formats.codecs.rows line.payloads own.codecs taken.payloads;
    exts = shared_formed formats.extensions.rows line.exts taken.exts;
    simulcast = sent.simulcast;
    msid = sent.msid;
    cname = sent.cname;
    named = inr (sent.has_msid, sent.has_cname);
    ssrcs = all-append IsFormedSource sending.ssrcs drawn sent.ssrcs more;
  };
  has_msid = sent.has_msid;
  has_cname = sent.has_cname;
}

if_media_formed : (row : LineRow) (update : MediaUpdate) → IsFormedUpdate update → AllByRecursion IsFormedUpdate (if_media row update)
if_media_formed (Media place mid kind dir stopped remote_created) update formed = (formed, tt)
if_media_formed (App place mid) update formed = tt

module _ {N : Type 0} (draws : Draws N) (used : ℕ → Bool) where
  row_pairs_formed : (sending : Sending) (earlier : List ℕ) (row : LineRow) (ids : N)
      → AllByRecursion IsFormedSource (row_pairs draws used sending earlier row ids)
  row_pairs_formed sending earlier row ids = by (wants_sources row sending)
    where
      by : (wants : Bool) → AllByRecursion IsFormedSource (elim wants [
        | true ↦ next_pairs draws used (row_kind row) earlier (pair_count sending.simulcast) ids
        | false ↦ []
      ])
      by true = pairs_formed draws used (row_kind row) earlier (pair_count sending.simulcast) ids
      by false = tt

  updates_formed : (sends : List ℕ → Sending) (formats : Formats) (offer : Bool) (before rows : List LineRow) (lines : List MediaLine)
      (earlier : List ℕ) (ids : N) → ((mid : List ℕ) → is_token mid ≡ true → IsFormedSending (sends mid)) → AreFormedFormats formats
      → HaveTokens rows → AllByRecursion IsTakenLine lines
      → AllByRecursion IsFormedUpdate (row_updates draws used sends formats offer before rows lines earlier ids)
  updates_formed sends formats offer before [] lines earlier ids sent own tokens taken = tt
  updates_formed sends formats offer before (row ∷ rows) [] earlier ids sent own tokens taken = tt
  updates_formed sends formats offer before (row ∷ rows) (line ∷ lines) earlier ids sent own tokens taken =
      let sending : Sending = layered line (sends (row_mid row)) in
      let token : is_token (row_mid row) ≡ true = (both (is_token (row_mid row)) _ tokens.0).0 in
      let formed : IsFormedSending sending = layered_formed line (sends (row_mid row)) taken.0.simulcast (sent (row_mid row) token) in
      let pairs : List Pair = row_pairs draws used sending earlier row ids in
      let first : MediaUpdate = row_update formats offer (first_row before) row line sending pairs in
      all-append IsFormedUpdate (if_media row first) _
      (if_media_formed row first
      (row_update_formed formats offer (first_row before) row line sending pairs own taken.0 formed (row_pairs_formed sending earlier row ids)))
      (updates_formed sends formats offer (rows_behind before) rows lines _ (after_row draws used sending row ids) sent own tokens.1 taken.1)

all_taken : {A : Type 0} (P : A → Type 0) (count : ℕ) (xs : List A) → AllByRecursion P xs → AllByRecursion P (take count xs)
all_taken P zero xs h = tt
all_taken P (suc count) [] h = tt
all_taken P (suc count) (x ∷ xs) h = (h.0, all_taken P count xs h.1)

-- What the media part of a formed peer is told of a description is formed, where its lines can be taken.
pub told_updates_formed : {I D S M E X T W N : Type 0} (m : Meanings I D S M E X T W N) (p : Peer I D S M N) (offer : Bool)
    (changes : List Change) (sdp : Sdp) (ids : N) → IsFormed (stance_of m p) → AreFormedChanges changes → NameTokens (parsed_lines sdp)
    → AllByRecursion IsTakenLine sdp.lines → AllByRecursion IsFormedUpdate (updates_for m p offer changes sdp ids)
told_updates_formed m p offer changes sdp ids formed staged names taken =
    updates_formed m.ids (uses_source m p) (sends_on m p changes) p.formats offer p.lines (rows_of_sdp m p offer sdp) sdp.lines [] ids
    (λ mid token. sending_formed (m.media.line p.media mid) (added_media changes mid) mid (formed.media mid)
    (added_media_formed changes mid staged) token)
    formed.formats
    (all_taken (λ row. is_short_token (row_mid row) ≡ true) (length sdp.lines) (table_after p.lines (parsed_lines sdp) offer)
    (table_after_tokens p.lines (parsed_lines sdp) offer formed.rows names))
    taken

-- ---- what the media part then has

latest_formed : (mid : List ℕ) (updates : List MediaUpdate) (held : Option MediaUpdate) → AllByRecursion IsFormedUpdate updates
    → IfSome held IsFormedUpdate → IfSome (latest mid updates held) IsFormedUpdate
latest_formed mid [] held all formed = formed
latest_formed mid (update ∷ updates) held all formed =
    latest_formed mid updates (cond (same_mid mid (update_mid update)) (Some update) held) all.1 (by (same_mid mid (update_mid update)))
  where
    by : (b : Bool) → IfSome (cond b (Some update) held) IsFormedUpdate
    by true = all.0
    by false = formed

pub line_after_formed : (updates : List MediaUpdate) (mid : List ℕ) (before : Option MediaUpdate) → AllByRecursion IsFormedUpdate updates
    → IfSome before IsFormedUpdate → IfSome (line_after updates mid before) IsFormedUpdate
line_after_formed updates mid before all formed = latest_formed mid updates _ all (by (removed_by updates mid))
  where
    by : (b : Bool) → IfSome (cond b None before) IsFormedUpdate
    by true = tt
    by false = formed
