-- The header extensions of an offer, if the lines that it adds take the numbers of the session.
use Rattle.std.proofs.Common.{◌≡◌, ◌+◌, ℕ, Bool, true, false, cond, List, [], ◌∷◌, ◌++◌, map, length, Option, inl, inr, refl, sym, ap, subst, ◌∙◌}
use Rattle.std.specs.Prelude.{filter}
use Rattle.std.specs.List.{AllByRecursion}
use Rattle.std.proofs.lemmas.List.{append_assoc, append-nil}
use Rattle.rtc_parts.specs.Among.{Member}
use Rattle.rtc_parts.proofs.AmongLemmas.{member-append, member-left, member-right}
use Rattle.rtc_sdp_values.specs.declared.candidate.Candidate.{Candidate}
use Rattle.rtc_sdp_values.specs.declared.extension.Extension.{Extension}
use Rattle.rtc_sdp_values.specs.declared.line_row.LineRow.{LineRow}
use Rattle.rtc_sdp_values.specs.declared.line_row.LineRow.TheVariants.{Media, App}
use Rattle.rtc_sdp_values.specs.declared.media_line.MediaLine.{MediaLine}
use Rattle.rtc_sdp_codecs.specs.LineFormats.{suits_kind, extensions_of_kind}
use Rattle.rtc_sdp_codecs.proofs.AllLemmas.{apart_kept}
use Rattle.rtc_change.specs.declared.change.Change.{Change}
use Rattle.rtc_change.specs.declared.change.Change.TheVariants.{AddMedia, AddApp, AddChannel, Direction as SetDirection, IceRestart}
use Rattle.rtc_peer_core.specs.declared.formats.Formats.{Formats}
use Rattle.rtc_peer_core.specs.declared.line_media.LineMedia.{LineMedia}
use Rattle.rtc_peer_core.specs.declared.sdp_head.SdpHead.{SdpHead}
use Rattle.rtc_peer_core.specs.declared.told_row.ToldRow.{ToldRow}
use Rattle.rtc_peer_core.specs.MadeSdp.{row_line, told_line, with_candidates, offer_head, held_told, added_told, offered_formats, offered_told, offer_sdp}
use Rattle.rtc_peer_core.specs.SessionExtensions.{has_number_of, HaveNumbersApart, HaveOneMeaning, told_extensions, line_extensions, added_formats}
use Rattle.rtc_peer_core.specs.Stance.{Stance}
use Rattle.rtc_peer_core.proofs.SessionNumbers.{numbered_apart, numbered_meaning, meaning_among}

member_kept : {A : Type 0} (test : A → Bool) (xs : List A) (x : A) → Member x (filter test xs) → Member x xs
member_kept test [] x m = absurd m
member_kept {A} test (y ∷ ys) x m = by (test y) m (λ rest. member_kept test ys x rest)
  where
    by : (b : Bool) → Member x (cond b (y ∷ filter test ys) (filter test ys)) → (Member x (filter test ys) → Member x ys) → Member x (y ∷ ys)
    by true (inl e) rest = inl e
    by true (inr m) rest = inr (rest m)
    by false m rest = inr (rest m)

-- ---- each added line has extensions of the formats that it is added with
added_apart : (formats : Formats) (place : ℕ) (changes : List Change) → HaveNumbersApart formats.extensions.rows
    → AllByRecursion (λ told. HaveNumbersApart told.media.exts) (added_told formats place changes)
added_apart formats place [] apart = tt
added_apart formats place (AddMedia media ∷ changes) apart = (
  apart_kept has_number_of (λ row. suits_kind media.kind row.1) formats.extensions.rows apart,
  added_apart formats (place + 1) changes apart,
)
added_apart formats place (AddApp mid ∷ changes) apart = (tt, added_apart formats (place + 1) changes apart)
added_apart formats place (AddChannel id config ∷ changes) apart = added_apart formats place changes apart
added_apart formats place (SetDirection mid dir ∷ changes) apart = added_apart formats place changes apart
added_apart formats place (IceRestart creds keeps ∷ changes) apart = added_apart formats place changes apart

added_among : (formats : Formats) (place : ℕ) (changes : List Change) (x : ℕ × Extension) → Member x (told_extensions (added_told formats place changes))
    → Member x formats.extensions.rows
added_among formats place [] x m = absurd m
added_among formats place (AddMedia media ∷ changes) x m =
    elim (member-append x (extensions_of_kind media.kind formats.extensions.rows) (told_extensions (added_told formats (place + 1) changes)) m) [
      | inl n ↦ member_kept (λ row. suits_kind media.kind row.1) formats.extensions.rows x n
      | inr n ↦ added_among formats (place + 1) changes x n
    ]
added_among formats place (AddApp mid ∷ changes) x m = added_among formats (place + 1) changes x m
added_among formats place (AddChannel id config ∷ changes) x m = added_among formats place changes x m
added_among formats place (SetDirection mid dir ∷ changes) x m = added_among formats place changes x m
added_among formats place (IceRestart creds keeps ∷ changes) x m = added_among formats place changes x m

told_joined : (front behind : List ToldRow) → told_extensions (front ++ behind) ≡ told_extensions front ++ told_extensions behind
told_joined [] behind = refl
told_joined (told ∷ front) behind =
    ap (λ (rest : List (ℕ × Extension)). told.media.exts ++ rest) (told_joined front behind)
    ∙ sym (append_assoc told.media.exts (told_extensions front) (told_extensions behind))

-- ---- a description carries what is told, and no more
line_among : (head : SdpHead) (media : LineMedia) (row : LineRow) (x : ℕ × Extension) → Member x (row_line head media row).exts → Member x media.exts
line_among head media (Media place mid kind dir stopped remote_created) x m = m
line_among head media (App place mid) x m = absurd m

lines_among : (head : SdpHead) (told : List ToldRow) (x : ℕ × Extension) → Member x (line_extensions (map (told_line head) told))
    → Member x (told_extensions told)
lines_among head [] x m = absurd m
lines_among head (told ∷ rest) x m =
    elim (member-append x (told_line head told).exts (line_extensions (map (told_line head) rest)) m) [
      | inl n ↦ member-left x told.media.exts (told_extensions rest) (line_among head told.media told.row x n)
      | inr n ↦ member-right x told.media.exts (told_extensions rest) (lines_among head rest x n)
    ]

candidates_beside : (candidates : List Candidate) (lines : List MediaLine) → line_extensions (with_candidates candidates lines) ≡ line_extensions lines
candidates_beside candidates [] = refl
candidates_beside candidates (line ∷ lines) = refl

-- ---- the laws
module _ (formats : Formats) (told : List ToldRow) where
  session_apart : (on : Bool) → on ≡ true → HaveNumbersApart (added_formats on formats told).extensions.rows
  session_apart true is = numbered_apart (told_extensions told) [] formats.extensions.rows tt
  session_apart false is = let bad : false ≡ true = is in cc

  session_meaning : (on : Bool) → on ≡ true → HaveOneMeaning (told_extensions told)
      → HaveOneMeaning (told_extensions told ++ (added_formats on formats told).extensions.rows)
  session_meaning true is held =
      numbered_meaning (told_extensions told) [] formats.extensions.rows held
      (subst HaveOneMeaning (sym (append-nil (told_extensions told))) held)
  session_meaning false is held = let bad : false ≡ true = is in cc

pub lines_apart : (s : Stance) → s.formats.session_ids ≡ true
    → AllByRecursion (λ told. HaveNumbersApart told.media.exts) (added_told (offered_formats s) (length s.lines) s.staged)
lines_apart s on = added_apart (offered_formats s) (length s.lines) s.staged (session_apart s.formats (held_told s) s.formats.session_ids on)

pub offer_meaning : (s : Stance) (init : Option (List ℕ)) → s.formats.session_ids ≡ true → HaveOneMeaning (told_extensions (held_told s))
    → HaveOneMeaning (line_extensions (offer_sdp s init).lines)
unfolding offer_sdp
offer_meaning s init on held =
    let head = offer_head s init in
    let added = added_told (offered_formats s) (length s.lines) s.staged in
    meaning_among (line_extensions (offer_sdp s init).lines) (told_extensions (held_told s) ++ (offered_formats s).extensions.rows)
    (session_meaning s.formats (held_told s) s.formats.session_ids on held)
    (λ x m.
    let among : Member x (told_extensions (held_told s ++ added)) =
    lines_among head (offered_told s) x
    (subst (λ (rows : List (ℕ × Extension)). Member x rows) (candidates_beside head.candidates (map (told_line head) (offered_told s))) m) in
    let parts : Member x (told_extensions (held_told s) ++ told_extensions added) =
    subst (λ (rows : List (ℕ × Extension)). Member x rows) (told_joined (held_told s) added) among in
    elim (member-append x (told_extensions (held_told s)) (told_extensions added) parts) [
      | inl n ↦ member-left x (told_extensions (held_told s)) (offered_formats s).extensions.rows n
      | inr n ↦ member-right x (told_extensions (held_told s)) (offered_formats s).extensions.rows
          (added_among (offered_formats s) (length s.lines) s.staged x n)
    ])
