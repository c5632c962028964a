-- The mid of a line of data channels that an offer adds is that of the offer's application line.
use Rattle.std.proofs.Common.{◌≡◌, ◌+◌, ℕ, Bool, true, false, List, [], ◌∷◌, ◌++◌, map, drop, length, Option, Some, None, refl, sym, ◌∙◌, ap, cond}
use Rattle.std.proofs.Math.Seq.{drop-append_seam, drop-length}
use Rattle.rtc_sdp_values.specs.declared.line_row.LineRow.{LineRow}
use Rattle.rtc_sdp_values.specs.declared.line_row.LineRow.TheVariants.{Media, App}
use Rattle.rtc_sdp_values.specs.declared.media_kind.MediaKind.TheVariants.{Audio, Video}
use Rattle.rtc_change.specs.declared.change.Change.{Change}
use Rattle.rtc_change.specs.declared.change.Change.TheVariants.{AddMedia as Adding, AddApp, AddChannel as AddingChannel, Direction as Setting, IceRestart as Restarting}
use Rattle.rtc_change.specs.PendingOffer.{added_rows}
use Rattle.rtc_peer_rows.specs.ParsedLines.{parsed_line, parsed_lines}
use Rattle.rtc_peer_core.specs.declared.sdp_head.SdpHead.{SdpHead}
use Rattle.rtc_peer_core.specs.Stance.{Stance}
use Rattle.rtc_peer_core.specs.declared.told_row.ToldRow.{ToldRow}
use Rattle.rtc_peer_core.specs.MadeSdp.{row_line, told_line, row_told, live_mids, offer_sdp, offer_head, offered_told}
use Rattle.rtc_peer_core.specs.SdpHalves.{offer_init}
use Rattle.rtc_peer_core.proofs.ToldRows.{rows_of_offered}
use Rattle.rtc_run_history.specs.declared.side.Side.{Side}
use Rattle.rtc_run_history.specs.declared.made.Made.{Made}
use Rattle.rtc_run_history.specs.declared.made.Made.TheVariants.{NotAsked, Nothing, Offer, Alloc as MadeAlloc}
use Rattle.rtc_run_history.specs.declared.kept.Kept.{Kept}
use Rattle.rtc_run_history.specs.PairState.{made_sdp}
use Rattle.rtc_run_history.specs.Performs.{kept_offer}
use Rattle.rtc_run_history.specs.Answers.{has_app_row}
use Rattle.rtc_run_history.specs.Past.{MadeSdp, app_line_mid, app_mid_said, new_app}
use Rattle.rtc_run_laws.proofs.SaidSdps.{parsed_with}
use Rattle.rtc_run_laws.proofs.StagedApps.{staged_app, AppTold}
use Rattle.rtc_run_laws.proofs.StanceSteps.{StanceMakesOf, needs_app}

-- the SDPs behind those that were there
abbrev pub behind : List Kept → List Kept → List MadeSdp
behind kept kept' = map made_sdp (drop (length kept) kept')

pub none_behind : (kept kept' : List Kept) → kept' ≡ kept → behind kept kept' ≡ []
none_behind kept kept' same = rw (same, drop-length kept) refl

pub one_behind : (kept kept' : List Kept) (one : Kept) → kept' ≡ kept ++ one ∷ [] → behind kept kept' ≡ made_sdp one ∷ []
one_behind kept kept' one pushed = rw (pushed, drop-append_seam kept (one ∷ [])) refl

-- ---- the application line of rows

-- the mid of the first row of data channels; empty where there is none
abbrev app_row_mid : List LineRow → List ℕ
app_row_mid [] = []
app_row_mid (Media place mid kind dir stopped remote_created ∷ rows) = app_row_mid rows
app_row_mid (App place mid ∷ rows) = mid

lines_mid : (head : SdpHead) (groups : List (List (List ℕ))) (told : List ToldRow)
    → app_line_mid (map (parsed_line groups) (map (told_line head) told)) ≡ app_row_mid (map row_told told)
lines_mid head groups [] = refl
lines_mid head groups (one ∷ told) = by one.row (lines_mid head groups told)
  where
    by : (row : LineRow) → app_line_mid (map (parsed_line groups) (map (told_line head) told)) ≡ app_row_mid (map row_told told)
        → app_line_mid (parsed_line groups (row_line head one.media row) ∷ map (parsed_line groups) (map (told_line head) told)) ≡ app_row_mid (row ∷ map row_told told)
    by (Media place mid Audio dir stopped remote_created) rest = rest
    by (Media place mid Video dir stopped remote_created) rest = rest
    by (App place mid) rest = refl

mid_behind : (rows more : List LineRow) → has_app_row rows ≡ false → app_row_mid (rows ++ more) ≡ app_row_mid more
mid_behind [] more none = refl
mid_behind (Media place mid kind dir stopped remote_created ∷ rows) more none = mid_behind rows more none
mid_behind (App place mid ∷ rows) more none = absurd (cc)

staged_mid_is : (place : ℕ) (staged : List Change) (own : List ℕ) → staged_app staged ≡ Some own → app_row_mid (added_rows place staged) ≡ own
staged_mid_is place [] own is = absurd (let e : None ≡ Some own = is in cc)
staged_mid_is place (Adding media ∷ staged) own is = staged_mid_is (place + 1) staged own is
staged_mid_is place (AddApp mid ∷ staged) own is = let e : Some mid ≡ Some own = is in cc
staged_mid_is place (AddingChannel id config ∷ staged) own is = staged_mid_is place staged own is
staged_mid_is place (Setting mid dir ∷ staged) own is = staged_mid_is place staged own is
staged_mid_is place (Restarting creds keeps ∷ staged) own is = staged_mid_is place staged own is

-- the application line of an offer that adds one is the staged one
offer_mid : (p : Stance) (init : Option (List ℕ)) (own : List ℕ) → has_app_row p.lines ≡ false → staged_app p.staged ≡ Some own → app_line_mid (parsed_lines (offer_sdp p init)) ≡ own
unfolding offer_sdp
offer_mid p init own none is =
    ap app_line_mid (parsed_with (live_mids (map row_told (offered_told p)) ∷ []) (offer_head p init).candidates (map (told_line (offer_head p init)) (offered_told p)))
    ∙ lines_mid (offer_head p init) (live_mids (map row_told (offered_told p)) ∷ []) (offered_told p) ∙ ap app_row_mid (rows_of_offered p) ∙ mid_behind p.lines (added_rows (length p.lines) p.staged) none ∙ staged_mid_is (length p.lines) p.staged own is

-- ---- what the SDP of a step tells of the line that it stages

no_choice : (b : Bool) → ◌≡◌ {A = Option (List ℕ)} (cond b None None) None
no_choice true = refl
no_choice false = refl

-- where no SDP is made, none is told
none_told : (rows : List LineRow) (said : List MadeSdp) → said ≡ [] → new_app rows said ≡ None
none_told rows said none = rw none (no_choice (has_app_row rows))

-- What is told of the line of data channels that a step stages: its mid, and where an offer is made, that one is needed where it is told.
pub record IsAppTold (p : Stance) (app : Option (List ℕ)) (what : Made) (q : Stance) : Type 0 where
  pub told_app : AppTold p app q
  pub offered : (k : ℕ) → what ≡ Offer k → app ≡ None → needs_app p ≡ false

untold : (p q : Stance) (app : Option (List ℕ)) (what : Made) → app ≡ None → ((k : ℕ) → what ≡ Offer k → ⊥) → IsAppTold p app what q
untold p q app what none never = rw none (record { told_app = tt; offered = λ k is. absurd (never k is) })

-- the offer tells the mid of the line that it adds
offer_told : (p q : Stance) (rows : List LineRow) (said : List MadeSdp) (mid : List ℕ) (what : Made) → app_mid_said said ≡ Some mid → has_app_row rows ≡ has_app_row q.lines
    → ((has : Bool) → has_app_row rows ≡ has → needs_app p ≡ cond has false true) → ((own : List ℕ) → has_app_row q.lines ≡ false → staged_app q.staged ≡ Some own → own ≡ mid) → IsAppTold p (new_app rows said) what q
offer_told p q rows said mid what says same needs is = by (has_app_row rows) refl
  where
    by : (has : Bool) → has_app_row rows ≡ has → IsAppTold p (new_app rows said) what q
    by true has = rw has (record { told_app = tt; offered = λ k made none. needs true has })
    by false has = rw (has, says) (record { told_app = (needs false has, λ own there. is own (sym same ∙ has) there); offered = λ k made none. absurd (cc) })

-- What is told of the line of data channels that ops stage.
pub app_is_told : (asked : Bool) (at : Side) (old p q : Stance) (kept kept' : List Kept) (what : Made) (rows : List LineRow) → StanceMakesOf asked at p kept what q kept' → rows ≡ p.lines → has_app_row p.lines ≡ has_app_row old.lines
    → old.staged ≡ [] → IsAppTold old (new_app rows (behind kept kept')) what p
app_is_told false at old p q kept kept' NotAsked rows h same app bare = untold old p _ NotAsked (none_told rows _ (none_behind kept kept' h.1)) (λ k is. absurd (cc))
app_is_told true at old p q kept kept' Nothing rows h same app bare = untold old p _ Nothing (none_told rows _ (none_behind kept kept' h.1)) (λ k is. absurd (cc))
app_is_told true at old p q kept kept' MadeAlloc rows h same app bare = untold old p _ MadeAlloc (none_told rows _ (none_behind kept kept' h.1)) (λ k is. absurd (cc))
app_is_told true at old p q kept kept' (Offer k) rows h same app bare =
    offer_told old p rows (behind kept kept') (app_line_mid (parsed_lines h.0.0)) (Offer k) (ap app_mid_said (one_behind kept kept' (kept_offer at h.0) h.2)) (ap has_app_row same)
    (λ has is. needed has (sym app ∙ ap has_app_row (sym same) ∙ is))
    (λ own none there. sym (ap (λ o. app_line_mid (parsed_lines o)) h.1.offered ∙ offer_mid p (offer_init p h.1.half) own none there))
  where
    needed : (has : Bool) → has_app_row old.lines ≡ has → needs_app old ≡ cond has false true
    needed true is = rw is refl
    needed false is = rw (is, bare) refl
app_is_told asked at old p q kept kept' what rows h same app bare = absurd h
