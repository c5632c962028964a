-- Session descriptions (SDPs) that a pair keeps and that are legible: each is read back, and can be taken.
use Rattle.std.proofs.Common.{◌≡◌, zero, suc, ℕ, List, [], ◌∷◌, ◌++◌, length, drop, Bool, true, false, cond, Option, Some, None, refl, sym, ◌∙◌, ap, subst, arith}
use Rattle.std.specs.Prelude.{slice_get, slice_set, option_map, IfSome}
use Rattle.std.specs.List.{AllByRecursion}
use Rattle.rtc_sdp_values.specs.declared.media_line.MediaLine.{MediaLine}
use Rattle.rtc_sdp_values.specs.declared.sdp.Sdp.{Sdp}
use Rattle.rtc_sdp_writer.specs.AsRead.{line_as_read, as_read}
use Rattle.rtc_sdp_writer.specs.Plain.{IsLegible}
use Rattle.rtc_sdp_writer.proofs.Law.{written_reads_again}
use Rattle.rtc_peer_rows.specs.ParsedLines.{parsed_lines}
use Rattle.rtc_peer_core.specs.Formed.{AreFormedChanges, IsTakenLine}
use Rattle.rtc_peer_core.proofs.Alls.{all-append, all-map}
use Rattle.rtc_peer_core.proofs.TokenTables.{NameTokens}
use Rattle.rtc_run_history.specs.declared.kept.Kept.{Kept}
use Rattle.rtc_run_history.specs.declared.side.Side.{Side}
use Rattle.rtc_run_history.specs.Past.{MadeSdp, sdp_for}
use Rattle.rtc_run_history.specs.PairState.{made_sdp, token_for, kept_remote_sdp, held_token, spent}
use Rattle.rtc_run_history.specs.Performs.{sdps_behind}
use Rattle.rtc_run_history.specs.Sides.{same_side}
use Rattle.rtc_run_history.specs.Signalled.{NotMade, Readable, arrival, signalled, signalled_if, ReadsBack, AllReadBack}
use Rattle.rtc_run_history.specs.SoundEntry.{AreReadBack}
use Rattle.rtc_run_laws.proofs.AsReadSdps.{lines_as_read}
use Rattle.rtc_run_laws.proofs.PlainSdps.{legible_names_tokens}
use Rattle.rtc_run_laws.proofs.ReadPasts.{all-get}
use Rattle.rtc_run_laws.proofs.TakenLines.{legible_lines_taken}

-- one that is legible, whose token has formed changes
pub record IsLegibleKept (kept : Kept) : Type 0 where
  pub legible : IsLegible kept.sdp
  pub changes : IfSome kept.token (λ token. AreFormedChanges token.changes)

abbrev pub AreLegible : List Kept → Type 0
AreLegible sdps = AllByRecursion IsLegibleKept sdps

all-set : {A : Type 0} (P : A → Type 0) (xs : List A) (k : ℕ) (v : A) → P v → AllByRecursion P xs → AllByRecursion P (slice_set xs k v)
all-set P [] k v new h = tt
all-set P (y ∷ ys) zero v new h = (new, h.1)
all-set P (y ∷ ys) (suc k) v new h = (h.0, all-set P ys k v new h.1)

-- without a token
pub spent_legible : (t : ℕ) (sdps : List Kept) → AreLegible sdps → AreLegible (spent t sdps)
spent_legible t sdps legible = by (slice_get sdps t) refl
  where
    by : (found : Option Kept) → slice_get sdps t ≡ found → AreLegible (spent t sdps)
    by None is = rw is legible
    by (Some one) is =
        let same : IsLegibleKept one = all-get IsLegibleKept sdps t one is legible in
        rw is (all-set IsLegibleKept sdps t (record one { token = None }) (record { legible = same.legible; changes = tt }) legible)

-- a legible SDP is read back
pub legible_reads : (sdp : Sdp) → IsLegible sdp → ReadsBack sdp
unfolding signalled
legible_reads sdp legible = ap arrival (written_reads_again sdp legible)

-- its mids are short tokens, and its lines can be taken
pub record CanBeTaken (sdp : Sdp) : Type 0 where
  pub names : NameTokens (parsed_lines sdp)
  pub lines : AllByRecursion IsTakenLine sdp.lines

taken_as_read : (line : MediaLine) → IsTakenLine line → IsTakenLine (line_as_read line)
taken_as_read line taken = record { payloads = taken.payloads; exts = taken.exts; simulcast = taken.simulcast }

legible_taken : (sdp : Sdp) → IsLegible sdp → CanBeTaken (as_read sdp)
legible_taken sdp legible = record {
  names = subst NameTokens (sym (lines_as_read sdp)) (legible_names_tokens sdp legible);
  lines = all-map IsTakenLine IsTakenLine line_as_read taken_as_read sdp.lines (legible_lines_taken sdp legible);
}

-- an SDP that is read of one of them
pub remote_taken : (offer : Bool) (sdps : List Kept) (at : Side) (k : ℕ) (sdp : Sdp) → kept_remote_sdp offer sdps at k ≡ Readable sdp → AreLegible sdps
    → CanBeTaken sdp
remote_taken offer sdps at k sdp is legible = by (slice_get sdps k) refl is
  where
    read : (kept : Kept) → IsLegible kept.sdp → signalled kept.sdp ≡ Readable sdp → CanBeTaken sdp
    read kept whole e =
        let both : Readable (as_read kept.sdp) ≡ Readable sdp = sym (legible_reads kept.sdp whole) ∙ e in
        let same : as_read kept.sdp ≡ sdp = cc in
        subst CanBeTaken same (legible_taken kept.sdp whole)

    picked : (b : Bool) (kept : Kept) → IsLegible kept.sdp → signalled_if (cond b (Some kept.sdp) None) ≡ Readable sdp → CanBeTaken sdp
    picked true kept whole e = read kept whole e
    picked false kept whole e = absurd (let bad : NotMade ≡ Readable sdp = e in cc)

    by : (found : Option Kept) → slice_get sdps k ≡ found → signalled_if (sdp_for offer at (option_map made_sdp found)) ≡ Readable sdp → CanBeTaken sdp
    by None there e = absurd (let bad : NotMade ≡ Readable sdp = e in cc)
    by (Some kept) there e = picked _ kept (all-get IsLegibleKept sdps k kept there legible).legible e

-- each is read back
pub legible_read_back : (sdps : List Kept) → AreLegible sdps → AllReadBack sdps
legible_read_back [] legible k d below = absurd (omega arith)
legible_read_back (kept ∷ sdps) legible zero d below = legible_reads kept.sdp legible.0.legible
legible_read_back (kept ∷ sdps) legible (suc k) d below = legible_read_back sdps legible.1 k d (omega arith)

pub push_legible : (sdps sdps' : List Kept) (last : Kept) → sdps' ≡ sdps ++ last ∷ [] → IsLegibleKept last → AreLegible sdps → AreLegible sdps'
push_legible sdps sdps' last pushed whole legible = rw pushed (all-append IsLegibleKept sdps (last ∷ []) legible (whole, tt))

-- the token that a side holds
pub token_changes : (sdps : List Kept) (at : Side) (t : ℕ) → AreLegible sdps → IfSome (held_token sdps at t) (λ token. AreFormedChanges token.changes)
token_changes sdps at t legible = by (slice_get sdps t) refl
  where
    picked : (b : Bool) (kept : Kept) → IsLegibleKept kept → IfSome (cond b kept.token None) (λ token. AreFormedChanges token.changes)
    picked true kept is = is.changes
    picked false kept is = tt

    by : (found : Option Kept) → slice_get sdps t ≡ found → IfSome (token_for at found) (λ token. AreFormedChanges token.changes)
    by None there = tt
    by (Some kept) there = picked (same_side kept.at at) kept (all-get IsLegibleKept sdps t kept there legible)

all-drop : {A : Type 0} (P : A → Type 0) (n : ℕ) (xs : List A) → AllByRecursion P xs → AllByRecursion P (drop n xs)
all-drop P zero xs h = h
all-drop P (suc n) [] h = tt
all-drop P (suc n) (x ∷ xs) h = all-drop P n xs h.1

-- so is each that is behind those of before
pub behind_read_back : (sdps sdps' : List Kept) → AreLegible sdps' → AreReadBack (sdps_behind sdps sdps')
behind_read_back sdps sdps' legible =
    all-map IsLegibleKept (λ (said : MadeSdp). ReadsBack said.sdp) made_sdp (λ kept is. legible_reads kept.sdp is.legible) (drop (length sdps) sdps')
    (all-drop IsLegibleKept (length sdps) sdps' legible)
