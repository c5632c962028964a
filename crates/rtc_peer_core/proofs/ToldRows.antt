-- Rows as they are told: which rows they are, what negotiation reads of their lines, and that formed lines are told of formed media.
use Rattle.std.proofs.Common.{◌≡◌, ◌+◌, inl, inr, Bool, true, false, ℕ, List, [], ◌∷◌, ◌++◌, map, length, Option, Some, None, refl, ap, ◌∙◌}
use Rattle.std.specs.Prelude.{IfSome}
use Rattle.std.specs.List.{AllByRecursion}
use Rattle.rtc_wire_text.specs.Tokens.{is_token, is_short_token}
use Rattle.rtc_wire_text.proofs.TokenLemmas.{both}
use Rattle.rtc_sdp_values.specs.LineRow.{row_mid}
use Rattle.rtc_sdp_values.specs.declared.line_row.LineRow.{LineRow}
use Rattle.rtc_sdp_values.specs.declared.line_row.LineRow.TheVariants.{Media, App}
use Rattle.rtc_sdp_values.specs.declared.media_kind.MediaKind.{MediaKind}
use Rattle.rtc_sdp_values.specs.declared.sdp.Sdp.{Sdp}
use Rattle.rtc_sdp_codecs.specs.FormedCodecs.{IsFormedExtension, AreFormedExtensions}
use Rattle.rtc_sdp_codecs.proofs.FormedLemmas.{kind_formed, extensions_formed}
use Rattle.rtc_parts.specs.declared.media_update.MediaUpdate.{MediaUpdate}
use Rattle.rtc_change.specs.declared.add_media.AddMedia.{AddMedia as AddedMedia}
use Rattle.rtc_change.specs.declared.change.Change.{Change}
use Rattle.rtc_change.specs.declared.change.Change.TheVariants.{AddMedia, AddApp, AddChannel, Direction as SetDirection, IceRestart}
use Rattle.rtc_change.specs.PendingOffer.{added_rows}
use Rattle.rtc_change.specs.TableAfter.{table_after}
use Rattle.rtc_peer_rows.specs.ParsedLines.{parsed_line, parsed_lines}
use Rattle.rtc_peer_core.specs.declared.formats.Formats.{Formats}
use Rattle.rtc_peer_core.specs.declared.line_media.LineMedia.{LineMedia}
use Rattle.rtc_peer_core.specs.declared.sdp_head.SdpHead.{SdpHead}
use Rattle.rtc_peer_core.specs.declared.told_row.ToldRow.{ToldRow}
use Rattle.rtc_peer_core.specs.Formats.{AreFormedFormats}
use Rattle.rtc_peer_core.specs.Formed.{HaveTokens, IsFormedMedia, IsFormedUpdate, IsFormedAdded, AreFormedChanges, IsFormed}
use Rattle.rtc_peer_core.specs.MadeSdp.{
  no_media,
  media_of_declared,
  media_held,
  media_of_added,
  media_told,
  newest,
  updates_behind,
  told_rows,
  added_told,
  offered_rows,
  held_told,
  offered_formats,
  offered_told,
  answered_told,
  row_line,
  row_told,
}
use Rattle.rtc_peer_core.specs.SessionExtensions.{told_extensions, added_formats}
use Rattle.rtc_peer_core.specs.Stance.{Stance}
use Rattle.rtc_peer_core.proofs.Alls.{all-append}
use Rattle.rtc_peer_core.proofs.SessionNumbers.{numbered_formed}

-- ---- which rows are told

pub rows_of_told : (formats : Formats) (line : List ℕ → Option MediaUpdate) (updates : List MediaUpdate) (rows : List LineRow)
    → map row_told (told_rows formats line updates rows) ≡ rows
rows_of_told formats line updates [] = refl
rows_of_told formats line updates (row ∷ rows) =
    ap (λ rest. row ∷ rest) (rows_of_told formats line (updates_behind row updates) rows)

pub rows_of_added : (formats : Formats) (place : ℕ) (changes : List Change)
    → map row_told (added_told formats place changes) ≡ added_rows place changes
rows_of_added formats place [] = refl
rows_of_added formats place (AddMedia media ∷ changes) =
    ap (λ rest. Media place media.mid media.kind media.dir false false ∷ rest) (rows_of_added formats (place + 1) changes)
rows_of_added formats place (AddApp mid ∷ changes) = ap (λ rest. App place mid ∷ rest) (rows_of_added formats (place + 1) changes)
rows_of_added formats place (AddChannel id config ∷ changes) = rows_of_added formats place changes
rows_of_added formats place (SetDirection mid dir ∷ changes) = rows_of_added formats place changes
rows_of_added formats place (IceRestart creds keeps ∷ changes) = rows_of_added formats place changes

rows_joined : (front behind : List ToldRow) → map row_told (front ++ behind) ≡ map row_told front ++ map row_told behind
rows_joined [] behind = refl
rows_joined (told ∷ front) behind = ap (λ rest. told.row ∷ rest) (rows_joined front behind)

join_same : {A : Type 0} (xs xs' ys ys' : List A) → xs ≡ xs' → ys ≡ ys' → xs ++ ys ≡ xs' ++ ys'
join_same xs xs' ys ys' a b = rw (a, b) refl

-- an offer tells the rows that are there, then those that it adds
pub rows_of_offered : (s : Stance) → map row_told (offered_told s) ≡ offered_rows s
rows_of_offered s =
    rows_joined (held_told s) (added_told (offered_formats s) (length s.lines) s.staged)
    ∙ join_same _ _ _ _ (rows_of_told s.formats s.line [] s.lines) (rows_of_added (offered_formats s) (length s.lines) s.staged)

-- an answer tells the rows that its offer leaves
pub rows_of_answered : (s : Stance) (updates : List MediaUpdate) (offer : Sdp)
    → map row_told (answered_told s updates offer) ≡ table_after s.lines (parsed_lines offer) true
rows_of_answered s updates offer = rows_of_told s.formats s.line updates (table_after s.lines (parsed_lines offer) true)

-- ---- what negotiation reads of a line does not depend on what it carries

pub parsed_bare : (groups : List (List (List ℕ))) (head : SdpHead) (media : LineMedia) (row : LineRow)
    → parsed_line groups (row_line head media row) ≡ parsed_line groups (row_line head no_media row)
parsed_bare groups head media (Media place mid kind dir stopped remote_created) = refl
parsed_bare groups head media (App place mid) = refl

pub mid_of_line : (head : SdpHead) (media : LineMedia) (row : LineRow) → (row_line head media row).mid ≡ row_mid row
mid_of_line head media (Media place mid kind dir stopped remote_created) = refl
mid_of_line head media (App place mid) = refl

-- ---- formed lines are told of formed media

pub no_media_formed : IsFormedMedia no_media
no_media_formed = record {
  payloads = record { each = tt; numbers = record { small = tt; apart = tt }; formats = tt };
  exts = tt;
  simulcast = tt;
  msid = tt;
  cname = tt;
  named = inl refl;
  ssrcs = tt;
}

abbrev pub IsToldFormed : ToldRow → Type 0
IsToldFormed told = IsFormedMedia told.media

-- a line that was declared, under names that are tokens
declared_formed : (formats : Formats) (stopped : Bool) (kind : MediaKind) (mid : List ℕ) → AreFormedFormats formats → is_token mid ≡ true
    → IsFormedMedia (media_of_declared formats stopped kind mid)
declared_formed formats true kind mid own token = no_media_formed
declared_formed formats false kind mid own token = record {
  payloads = kind_formed kind formats.codecs.rows own.codecs;
  exts = extensions_formed kind formats.extensions.rows own.extensions;
  simulcast = tt;
  msid = record { stream = token; track = token };
  cname = token;
  named = inl refl;
  ssrcs = tt;
}

newest_formed : (declared : LineMedia) (updates : List MediaUpdate) (held : Option MediaUpdate) → IsFormedMedia declared
    → AllByRecursion IsFormedUpdate updates → IfSome held IsFormedUpdate → IsFormedMedia (media_held declared (newest updates held))
newest_formed declared [] None own all formed = own
newest_formed declared [] (Some update) own all formed = formed.carried
newest_formed declared (update ∷ updates) held own all formed = all.0.carried

behind_formed : (row : LineRow) (updates : List MediaUpdate) → AllByRecursion IsFormedUpdate updates
    → AllByRecursion IsFormedUpdate (updates_behind row updates)
behind_formed (Media place mid kind dir stopped remote_created) [] all = tt
behind_formed (Media place mid kind dir stopped remote_created) (update ∷ updates) all = all.1
behind_formed (App place mid) updates all = all

module _ (formats : Formats) (own : AreFormedFormats formats) (line : List ℕ → Option MediaUpdate)
    (formed : (mid : List ℕ) → IfSome (line mid) IsFormedUpdate) where
  media_told_formed : (updates : List MediaUpdate) (row : LineRow) → is_short_token (row_mid row) ≡ true
      → AllByRecursion IsFormedUpdate updates → IsFormedMedia (media_told formats line updates row)
  media_told_formed updates (Media place mid kind dir stopped remote_created) short all =
      newest_formed (media_of_declared formats stopped kind mid) updates (line mid)
      (declared_formed formats stopped kind mid own (both (is_token mid) _ short).0) all (formed mid)
  media_told_formed updates (App place mid) short all = no_media_formed

  pub told_formed : (updates : List MediaUpdate) (rows : List LineRow) → HaveTokens rows → AllByRecursion IsFormedUpdate updates
      → AllByRecursion IsToldFormed (told_rows formats line updates rows)
  told_formed updates [] tokens all = tt
  told_formed updates (row ∷ rows) tokens all = (
    media_told_formed updates row tokens.0 all,
    told_formed (updates_behind row updates) rows tokens.1 (behind_formed row updates all),
  )

media_of_added_formed : (formats : Formats) (media : AddedMedia) → AreFormedFormats formats → IsFormedAdded media
    → IsFormedMedia (media_of_added formats media)
media_of_added_formed formats media own staged = record {
  payloads = kind_formed media.kind formats.codecs.rows own.codecs;
  exts = extensions_formed media.kind formats.extensions.rows own.extensions;
  simulcast = staged.simulcast;
  msid = staged.msid;
  cname = staged.cname;
  named = inr (refl, refl);
  ssrcs = staged.ssrcs;
}

pub added_formed : (formats : Formats) (place : ℕ) (changes : List Change) → AreFormedFormats formats → AreFormedChanges changes
    → AllByRecursion IsToldFormed (added_told formats place changes)
added_formed formats place [] own all = tt
added_formed formats place (AddMedia media ∷ changes) own all =
    (media_of_added_formed formats media own all.0.media, added_formed formats (place + 1) changes own all.1)
added_formed formats place (AddApp mid ∷ changes) own all = (no_media_formed, added_formed formats (place + 1) changes own all.1)
added_formed formats place (AddChannel id config ∷ changes) own all = added_formed formats place changes own all.1
added_formed formats place (SetDirection mid dir ∷ changes) own all = added_formed formats place changes own all.1
added_formed formats place (IceRestart creds keeps ∷ changes) own all = added_formed formats place changes own all.1

told_extensions_formed : (told : List ToldRow) → AllByRecursion IsToldFormed told → AreFormedExtensions (told_extensions told)
told_extensions_formed [] all = tt
told_extensions_formed (told ∷ rest) all =
    all-append IsFormedExtension told.media.exts (told_extensions rest) all.0.exts (told_extensions_formed rest all.1)

added_formats_formed : (session_ids : Bool) (formats : Formats) (told : List ToldRow) → AreFormedFormats formats → AllByRecursion IsToldFormed told
    → AreFormedFormats (added_formats session_ids formats told)
added_formats_formed false formats told own all = own
added_formats_formed true formats told own all = record {
  codecs = own.codecs;
  extensions = numbered_formed (told_extensions told) [] formats.extensions.rows (told_extensions_formed told all) tt own.extensions;
}

-- what the offers and answers of a formed peer tell
pub offered_media_formed : (s : Stance) → IsFormed s → AllByRecursion IsToldFormed (offered_told s)
offered_media_formed s formed =
    let held : AllByRecursion IsToldFormed (held_told s) = told_formed s.formats formed.formats s.line formed.media [] s.lines formed.rows tt in
    all-append IsToldFormed (held_told s) (added_told (offered_formats s) (length s.lines) s.staged) held
    (added_formed (offered_formats s) (length s.lines) s.staged
    (added_formats_formed s.formats.session_ids s.formats (held_told s) formed.formats held) formed.changes)

pub answered_media_formed : (s : Stance) (updates : List MediaUpdate) (offer : Sdp) → IsFormed s
    → HaveTokens (table_after s.lines (parsed_lines offer) true) → AllByRecursion IsFormedUpdate updates
    → AllByRecursion IsToldFormed (answered_told s updates offer)
answered_media_formed s updates offer formed tokens all =
    told_formed s.formats formed.formats s.line formed.media updates (table_after s.lines (parsed_lines offer) true) tokens all
