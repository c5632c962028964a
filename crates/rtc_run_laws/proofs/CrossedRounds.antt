-- The round of the impolite side's offer, read from the past: what it says, and that neither it nor its answer is refused for its rows.
use Rattle.std.proofs.Common.{◌≡◌, ◌==◌, ℕ, Bool, true, false, List, [], ◌∷◌, ◌++◌, map, length, Option, Some, None, refl, sym, ◌∙◌, ap, subst, arith, length-append}
use Rattle.std.specs.Prelude.{is_some, slice_get}
use Rattle.std.proofs.lemmas.Bool.{eq-eqb}
use Rattle.std.proofs.lemmas.List.{length-map}
use Rattle.rtc_sdp_values.specs.LineRow.{row_mid}
use Rattle.rtc_sdp_values.specs.Sdp.{inconsistency}
use Rattle.rtc_sdp_values.specs.declared.line_row.LineRow.{LineRow}
use Rattle.rtc_sdp_values.specs.declared.sdp.Sdp.{Sdp}
use Rattle.rtc_change.specs.Held.{Held}
use Rattle.rtc_change.specs.Plans.{verdict, head_verdict}
use Rattle.rtc_change.specs.TableAfter.{rows_after, table_after}
use Rattle.rtc_peer_rows.specs.ParsedLines.{parsed_lines}
use Rattle.rtc_peer_rows.specs.Table.{IsTable, OneApp}
use Rattle.rtc_peer_core.specs.Stance.{Stance, held_by}
use Rattle.rtc_sdp_writer.specs.AsRead.{as_read}
use Rattle.rtc_run_history.specs.Answers.{added, has_app_row}
use Rattle.rtc_run_history.specs.Past.{Entry, MadeSdp, added_by, before, is_right, is_spent, new_app, remote_sdp, sdp_for, sdps}
use Rattle.rtc_run_history.specs.SaidRows.{MakesSdp, are_live, row_said}
use Rattle.rtc_run_history.specs.Sides.{other_side, same_side}
use Rattle.rtc_run_history.specs.Signalled.{Readable, signalled_if}
use Rattle.rtc_run_history.specs.Sound.{IsSound, OpsAnswered, at_first, is_glare_at}
use Rattle.rtc_run_history.specs.SoundEntry.{AreReadBack}
use Rattle.rtc_run_history.specs.Views.{Stances, view_in}
use Rattle.rtc_run_history.specs.declared.made.Made.TheVariants.{Offer}
use Rattle.rtc_run_history.specs.declared.op.Op.{Op}
use Rattle.rtc_run_history.specs.declared.op_answer.OpAnswer.{OpAnswer}
use Rattle.rtc_run_history.specs.declared.outcome.Outcome.TheVariants.{Answered, Negotiated}
use Rattle.rtc_run_history.specs.declared.side.Side.{Side}
use Rattle.rtc_run_history.specs.declared.side.Side.TheVariants.{Left, Right}
use Rattle.rtc_run_history.specs.declared.step.Step.TheVariants.{AcceptOffer, Negotiate}
use Rattle.rtc_run_history.specs.declared.table.Table.{Table}
use Rattle.rtc_run_laws.proofs.AddedRows.{AreAdded, among_mids}
use Rattle.rtc_run_laws.proofs.Around.{entry}
use Rattle.rtc_run_laws.proofs.AsReadSdps.{fits_as_read, lines_as_read}
use Rattle.rtc_run_laws.proofs.FinishedRounds.{remote_offer, taken_whole}
use Rattle.rtc_run_laws.proofs.OfferTables.{offer_table, ops_new}
use Rattle.rtc_run_laws.proofs.PastAnswers.{answered}
use Rattle.rtc_run_laws.proofs.PastOffers.{stays_there, text_next}
use Rattle.rtc_run_laws.proofs.PastTables.{past_table, reply_table}
use Rattle.rtc_run_laws.proofs.ReadPasts.{read_at}
use Rattle.rtc_run_laws.proofs.RoundRows.{HeadPasses}
use Rattle.rtc_run_laws.proofs.RowNames.{Aligned, aligned_self, aligned_sym, aligned_trans, has_app-aligned, has_mid-aligned, length-aligned}
use Rattle.rtc_run_laws.proofs.RowsFollow.{Follows, SayApps, added_follow, after_aligned, all_left, answer_follows, follows_allowed, follows_append, follows_say}
use Rattle.rtc_run_laws.proofs.SoundPasts.{Sound}
use Rattle.rtc_run_laws.proofs.Tells.{same_side-self}
use Rattle.rtc_run_laws.proofs.UnspentTokens.{unspent_later}

-- what an offer says: the rows that its side had as it made it, then those that it added; one of them is live
pub record CrossOffer : Type 0 where
  pub sdp : Sdp
  pub front : List LineRow
  pub more : List LineRow
  pub says : parsed_lines sdp ≡ map row_said (front ++ more)
  pub fits : inconsistency sdp ≡ None
  pub live : are_live (front ++ more) ≡ true
  pub whole : IsTable (front ++ more)
  pub may : Bool
  pub new : AreAdded may (map row_mid front) (length front) more
  pub first : may ≡ true → has_app_row front ≡ false

-- a side made the offer of a number, whose token is right and not spent, and its rows still have the names that it offered
pub record HasCrossed {E : Type 0} (offer : CrossOffer) (at : Side) (n : ℕ) (past : List (Entry E)) : Type 0 where
  pub right : is_right at n past ≡ true
  pub unspent : is_spent n past ≡ false
  pub there : slice_get (sdps past) n ≡ Some (record { at = at; offer = true; sdp = offer.sdp })
  pub adds : added_by (length offer.front) n past ≡ offer.more
  pub kept : Aligned offer.front (before at past)

-- what an answer says: the rows that its side had as it made it
pub record CrossAnswer : Type 0 where
  pub sdp : Sdp
  pub rows : List LineRow
  pub says : parsed_lines sdp ≡ map row_said rows
  pub fits : inconsistency sdp ≡ None
  pub live : are_live rows ≡ true
  pub table : IsTable rows

-- the other side made the answer of a number to an offer, and the rows of both sides have the names that it says
pub record HasReplied {E : Type 0} (offer : CrossOffer) (answer : CrossAnswer) (at : Side) (m : ℕ) (past : List (Entry E)) : Type 0 where
  pub there : slice_get (sdps past) m ≡ Some (record { at = other_side at; offer = false; sdp = answer.sdp })
  pub offered : Aligned (offer.front ++ offer.more) answer.rows
  pub mine : Follows (before at past) (before at past) answer.rows
  pub theirs : Aligned answer.rows (before (other_side at) past)

-- ---- an offer is made

none_where : (lines : List LineRow) (made : List MadeSdp) → is_some (new_app lines made) ≡ true → has_app_row lines ≡ false
none_where lines made tells = by (has_app_row lines) refl
  where
    by : (has : Bool) → has_app_row lines ≡ has → has_app_row lines ≡ false
    by false is = is
    by true is = absurd (let e : false ≡ true = rw is at tells in cc)

-- an offer with its place in a past
pub record Crosses {E : Type 0} (at : Side) (n : ℕ) (past : List (Entry E)) : Type 0 where
  pub offer : CrossOffer
  pub has : HasCrossed offer at n past

pub cross_offered : {E : Type 0} → (fresh : Stances) (past : List (Entry E)) (at : Side) (ops : List Op) (answers : List OpAnswer) (k n : ℕ) (table : Table) (made : List MadeSdp) (stance : Stance) → Sound fresh past
    → OpsAnswered (at_first stance at past (new_app table.lines made)) ops answers table.lines → k ≡ length (sdps past) → n ≡ length (sdps past)
    → MakesSdp {E = E} (Negotiate at ops true) (Negotiated answers (Offer k)) (Some table) made → are_live (table.lines ++ added (new_app table.lines made) (length table.lines) ops answers) ≡ true
    → (it : Crosses at n (entry (Negotiate at ops true) (Negotiated answers (Offer k)) (Some table) made ∷ past)) × (it.offer.front ≡ table.lines)
cross_offered {E} fresh past at ops answers k n table made stance sound answered count is says live =
    let app : Option (List ℕ) = new_app table.lines made in
    let more : List LineRow = added app (length table.lines) ops answers in
    let numbered : (k == n) ≡ true = eq-eqb k n (count ∙ sym is) in (
      record {
        offer = record {
          sdp = says.sdp;
          front = table.lines;
          more = more;
          says = says.says;
          fits = says.fits live;
          live = live;
          whole = offer_table stance past at ops answers table made (past_table fresh past at sound) answered;
          may = is_some app;
          new = ops_new stance past at app ops answers table.lines (length table.lines) answered;
          first = none_where table.lines made;
        };
        has = record {
          right = rw numbered refl;
          unspent = unspent_later fresh past n sound (omega (arith, is));
          there = text_next past (entry (Negotiate at ops true) (Negotiated answers (Offer k)) (Some table) made) _ n says.one is;
          adds = rw numbered refl;
          kept = rw (same_side-self at) (aligned_self table.lines);
        };
      },
      refl,
    )

-- ---- an offer is accepted

cross_unrefused : (view : Held) (more : List LineRow) (sdp : Sdp) → IsTable view.lines → Follows view.lines view.lines more → OneApp more → parsed_lines sdp ≡ map row_said more → inconsistency sdp ≡ None → are_live more ≡ true
    → HeadPasses view true sdp → verdict view None sdp ≡ None
unfolding verdict head_verdict
cross_unrefused view [] sdp table follows one says fits live head = absurd (let e : false ≡ true = live in cc)
cross_unrefused view (row ∷ more) sdp table follows one says fits live head = rw (says, head.side, head.init, fits, follows_allowed view.lines true false 0 view.lines (row ∷ more) table (all_left view.lines) follows one tt) refl

cross_follows : (offer : CrossOffer) (rows : List LineRow) → Aligned offer.front rows → Follows rows rows (offer.front ++ offer.more)
cross_follows offer rows same =
    follows_append rows rows offer.front offer.more (aligned_sym offer.front rows same)
    (added_follow rows offer.may (map row_mid offer.front) (length offer.front) offer.more offer.new (λ mid free. has_mid-aligned offer.front rows mid same ∙ sym (among_mids offer.front mid) ∙ free)
    (λ may. has_app-aligned offer.front rows same ∙ offer.first may))

-- The offer may be delivered to the other side, which does not refuse it for its rows.
pub record MayReply {E : Type 0} (offer : CrossOffer) (at : Side) (n : ℕ) (past : List (Entry E)) : Type 0 where
  pub remote_is : remote_sdp true (other_side at) n past ≡ Readable (as_read offer.sdp)
  pub leaves : table_after (before (other_side at) past) (parsed_lines (as_read offer.sdp)) true ≡ rows_after (before (other_side at) past) true 0 (map row_said (offer.front ++ offer.more))
  pub here : Follows (before at past) (before at past) (offer.front ++ offer.more)
  pub there : Follows (before (other_side at) past) (before (other_side at) past) (offer.front ++ offer.more)

pub may_reply : {E : Type 0} → (at : Side) (n : ℕ) (past : List (Entry E)) → AreReadBack (sdps past) → (it : Crosses at n past) → Aligned (before at past) (before (other_side at) past) → MayReply it.offer at n past
may_reply at n past read it alike =
    let offer : CrossOffer = it.offer in
    let theirs : List LineRow = before (other_side at) past in
    let same : Aligned offer.front theirs = aligned_trans offer.front (before at past) theirs it.has.kept alike in
    let lines : length (map row_said (offer.front ++ offer.more)) ≡ length (offer.front ++ offer.more) = length-map (offer.front ++ offer.more) row_said in
    record {
      remote_is = ap (λ said. signalled_if (sdp_for true (other_side at) said)) it.has.there ∙ ap signalled_if (remote_offer at offer.sdp)
          ∙ read_at past n _ read it.has.there;
      leaves = ap (λ list. table_after theirs list true) (lines_as_read offer.sdp ∙ offer.says)
          ∙ taken_whole theirs (map row_said (offer.front ++ offer.more)) true (omega (arith, lines, length-aligned offer.front theirs same, length-append offer.front offer.more));
      here = cross_follows offer (before at past) it.has.kept;
      there = cross_follows offer theirs same;
    }

pub reply_passes : {E : Type 0} → (fresh : Stances) (at : Side) (n : ℕ) (past : List (Entry E)) (view : Held) → Sound fresh past → (it : Crosses at n past) → Aligned (before at past) (before (other_side at) past)
    → view.lines ≡ before (other_side at) past → HeadPasses view true (as_read it.offer.sdp) → verdict view None (as_read it.offer.sdp) ≡ None
reply_passes fresh at n past view sound it alike is head =
    let offer : CrossOffer = it.offer in
    let same : Aligned offer.front view.lines = rw is (aligned_trans offer.front (before at past) (before (other_side at) past) it.has.kept alike) in
    cross_unrefused view (offer.front ++ offer.more) (as_read offer.sdp) (subst IsTable (sym is) (past_table fresh past (other_side at) sound)) (cross_follows offer view.lines same) offer.whole.one_app (lines_as_read offer.sdp ∙ offer.says)
    (fits_as_read offer.sdp ∙ offer.fits) offer.live head

pub read_same : (one other : Sdp) → Readable one ≡ Readable other → one ≡ other
read_same one other same = cc

other_side-same : (at : Side) → same_side (other_side at) at ≡ false
other_side-same Left = refl
other_side-same Right = refl

reply_stays : {E : Type 0} → (offer : CrossOffer) (at : Side) (n : ℕ) (past : List (Entry E)) (k j : ℕ) (table : Option Table) (made : List MadeSdp) → HasCrossed offer at n past
    → HasCrossed offer at n (entry (AcceptOffer (other_side at) k) (Answered j) table made ∷ past)
reply_stays offer at n past k j table made has = record {
  right = rw (other_side-same at) has.right;
  unspent = has.unspent;
  there = stays_there (sdps past) made n _ has.there;
  adds = has.adds;
  kept = rw (other_side-same at) has.kept;
}

-- an offer with its answer
pub record Replies {E : Type 0} (offer : CrossOffer) (answer : CrossAnswer) (at : Side) (n m : ℕ) (past : List (Entry E)) : Type 0 where
  pub has : HasCrossed offer at n past
  pub replied : HasReplied offer answer at m past

pub replied_next : {E : Type 0} → (fresh between : Stances) (at : Side) (n m : ℕ) (past : List (Entry E)) (j : ℕ) (table : Table) (made : List MadeSdp) → AreReadBack (sdps past) → Sound fresh past → (out : Crosses at n past)
    → Aligned (before at past) (before (other_side at) past) → m ≡ length (sdps past) → are_live table.lines ≡ true
    → IsSound fresh past between (AcceptOffer (other_side at) n) (Answered j) (Some table) made → MakesSdp {E = E} (AcceptOffer (other_side at) n) (Answered j) (Some table) made
    → (answer : CrossAnswer) × Replies out.offer answer at n m (entry (AcceptOffer (other_side at) n) (Answered j) (Some table) made ∷ past)
replied_next {E} fresh between at n m past j table made read sound out alike count live replied says =
    let may : MayReply out.offer at n past = may_reply at n past read out alike in
    let it = answered E (is_glare_at fresh (other_side at) past) (remote_sdp true (other_side at) n past) (view_in fresh (other_side at) past (held_by (between (other_side at)))) (length (sdps past)) j table.lines replied.0 in
    let text_is : it.offer ≡ as_read out.offer.sdp = read_same _ _ (sym it.is ∙ may.remote_is) in
    let after : table.lines ≡ rows_after theirs true 0 (map row_said offered) = it.leaves ∙ ap (λ sdp. table_after theirs (parsed_lines sdp) true) text_is ∙ may.leaves in
    let table_of : IsTable theirs = past_table fresh past (other_side at) sound in
    let apps : SayApps theirs offered = follows_say theirs 0 theirs offered table_of (all_left theirs) may.there in
    let names : Aligned offered table.lines = rw after (after_aligned theirs true 0 offered offered apps (aligned_self offered)) in
    let follows : Follows mine mine table.lines = rw after (answer_follows mine theirs mine theirs offered 0 apps alike may.here may.there) in
    let left : IsTable table.lines = reply_table fresh between past (AcceptOffer (other_side at) n) (Answered j) (Some table) made replied table_of in (
      record { sdp = says.sdp; rows = table.lines; says = says.says; fits = says.fits live; live = live; table = left },
      record {
        has = reply_stays out.offer at n past n j (Some table) made out.has;
        replied = record {
          there = text_next past (entry (AcceptOffer (other_side at) n) (Answered j) (Some table) made) _ m says.one count;
          offered = names;
          mine = rw (other_side-same at) follows;
          theirs = rw (same_side-self (other_side at)) (aligned_self table.lines);
        };
      },
    )
  where
    mine : List LineRow
    mine = before at past

    theirs : List LineRow
    theirs = before (other_side at) past

    offered : List LineRow
    offered = out.offer.front ++ out.offer.more
