-- Changes that are staged behind others: the rows that they add, and whether they are offered.
use Rattle.std.proofs.Common.{◌≡◌, ◌+◌, ℕ, suc, List, [], ◌∷◌, ◌++◌, length, Bool, true, false, not, ◌||◌, Ok, refl, sym, ◌∙◌, ap, arith, append-nil, append_assoc, length-append}
use Rattle.rtc_sdp_values.specs.declared.direction.Direction.{Direction}
use Rattle.rtc_sdp_values.specs.declared.line_row.LineRow.{LineRow}
use Rattle.rtc_sdp_values.specs.declared.line_row.LineRow.TheVariants.{Media as MediaRow, App}
use Rattle.rtc_change.specs.declared.change.Change.{Change}
use Rattle.rtc_change.specs.declared.change.Change.TheVariants.{AddMedia as Adding, AddApp, AddChannel as AddingChannel, Direction as Setting, IceRestart as Restarting}
use Rattle.rtc_change.specs.PendingOffer.{added_mids, added_rows, is_offered, do_offer, contains_add_app, staged_restart}
use Rattle.std.proofs.lemmas.List.Folds.{list_any-append}
use Rattle.rtc_peer_rows.specs.RowChanges.{RowChange, changed_of}
use Rattle.rtc_change.proofs.AddedLemmas.{added_mids-append}
use Rattle.rtc_peer_rows.proofs.RowChangeLemmas.{KeepsRow, changed_of_alike, length-alike}
use Rattle.rtc_peer_core.specs.Stance.{Stance}
use Rattle.rtc_run_history.specs.Answers.{has_app_row}
use Rattle.rtc_run_laws.proofs.OpRows.{has_app-alike}
use Rattle.rtc_run_laws.proofs.StagedApps.{contains-append}
use Rattle.rtc_run_laws.proofs.RestartChanges.{restart-still}
use Rattle.rtc_peer_core.proofs.StanceCalls.{StanceChangesLine}

-- whether something is staged
abbrev pub are_some : List Change → Bool
are_some [] = false
are_some (change ∷ changes) = true

pub some-push : (staged : List Change) (change : Change) → are_some (staged ++ change ∷ []) ≡ true
some-push [] change = refl
some-push (first ∷ staged) change = refl

pub some_two : (staged : List Change) (change next : Change) → are_some (staged ++ change ∷ next ∷ []) ≡ true
some_two [] change next = refl
some_two (first ∷ staged) change next = refl

pub or_nothing : (a : Bool) → a ≡ (a || false)
or_nothing true = refl
or_nothing false = refl

pub or_something : (a : Bool) → true ≡ (a || true)
or_something true = refl
or_something false = refl

pub or_three : (a b c : Bool) → ((a || b) || c) ≡ (a || (b || c))
or_three true b c = refl
or_three false b c = refl

one_on : (place count : ℕ) → place + 1 + count ≡ place + suc count
one_on place count = omega arith

-- the rows of changes are those of the first ones, then those of the rest
pub added_rows-append : (place : ℕ) (staged more : List Change) → added_rows place (staged ++ more) ≡ added_rows place staged ++ added_rows (place + length (added_mids staged)) more
added_rows-append place [] more = ap (λ n. added_rows n more) (let e : place ≡ place + 0 = omega arith in e)
added_rows-append place (Adding media ∷ staged) more =
    ap (λ rows. MediaRow place media.mid media.kind media.dir false false ∷ rows) (added_rows-append (place + 1) staged more ∙ ap (λ n. added_rows (place + 1) staged ++ added_rows n more) (one_on place (length (added_mids staged))))
added_rows-append place (AddApp mid ∷ staged) more =
    ap (λ rows. App place mid ∷ rows) (added_rows-append (place + 1) staged more ∙ ap (λ n. added_rows (place + 1) staged ++ added_rows n more) (one_on place (length (added_mids staged))))
added_rows-append place (AddingChannel id config ∷ staged) more = added_rows-append place staged more
added_rows-append place (Setting mid dir ∷ staged) more = added_rows-append place staged more
added_rows-append place (Restarting creds keeps ∷ staged) more = added_rows-append place staged more

-- a row that is added, and those after it
pub adds_next : (place : ℕ) (staged staged' more : List Change) (front : List LineRow) (row : LineRow) (rows : List LineRow)
    → staged' ≡ staged ++ more → added_rows (place + length (added_mids staged)) more ≡ row ∷ []
    → front ≡ added_rows place staged' ++ rows → front ≡ added_rows place staged ++ row ∷ rows
adds_next place staged staged' more front row rows pushed is rest =
    rest
    ∙ ap (λ (s : List Change). added_rows place s ++ rows) pushed
    ∙ ap (λ (list : List LineRow). list ++ rows) (added_rows-append place staged more ∙ ap (λ (last : List LineRow). added_rows place staged ++ last) is)
    ∙ append_assoc (added_rows place staged) (row ∷ []) rows

-- as many rows more as there are mids more
pub count_next : (staged staged' more : List Change) (n : ℕ) → staged' ≡ staged ++ more → length (added_mids more) ≡ n → length (added_mids staged') ≡ length (added_mids staged) + n
count_next staged staged' more n pushed few =
    ap (λ changes. length (added_mids changes)) pushed ∙ ap length (added_mids-append staged more) ∙ length-append (added_mids staged) (added_mids more) ∙ ap (λ (k : ℕ). length (added_mids staged) + k) few

pub offer-append : (staged more : List Change) → do_offer (staged ++ more) ≡ (do_offer staged || do_offer more)
offer-append staged more = list_any-append is_offered staged more

-- What a change of a line leaves of a peer.
pub record StagesLine (p : Stance) (changed : Bool) (r : Stance) : Type 0 where
  pub rows : length r.lines ≡ length p.lines
  pub app : has_app_row r.lines ≡ has_app_row p.lines
  pub counter : r.counter ≡ p.counter
  pub restart : staged_restart r.staged ≡ staged_restart p.staged
  pub channels : r.channels ≡ p.channels
  pub channel_rows : r.rows ≡ p.rows
  pub adds : (place : ℕ) → added_rows place r.staged ≡ added_rows place p.staged
  pub count : length (added_mids r.staged) ≡ length (added_mids p.staged)
  pub some : are_some r.staged ≡ (are_some p.staged || changed)
  pub offers : do_offer r.staged ≡ (do_offer p.staged || changed)
  pub lined : contains_add_app r.staged ≡ contains_add_app p.staged

pub line_staged : (change : RowChange) (to : Direction) (p : Stance) (mid : List ℕ) (changed : Bool) (r : Stance) → KeepsRow change → StanceChangesLine change to p mid (Ok changed) r → StagesLine p changed r
line_staged change to p mid true r keeps h =
    let staged : r.staged ≡ p.staged ++ Setting mid to ∷ [] = ap (λ q. q.staged) h.1 in
    let alike = changed_of_alike change keeps mid p.lines in
    record {
      rows = ap (λ q. length q.lines) h.1 ∙ length-alike p.lines (changed_of change mid p.lines) alike;
      app = ap (λ q. has_app_row q.lines) h.1 ∙ has_app-alike p.lines (changed_of change mid p.lines) alike;
      counter = ap (λ q. q.counter) h.1;
      restart = restart-still p.staged r.staged (Setting mid to ∷ []) staged refl;
      channels = ap (λ q. q.channels) h.1;
      channel_rows = ap (λ q. q.rows) h.1;
      adds = λ place. ap (added_rows place) staged ∙ added_rows-append place p.staged (Setting mid to ∷ []) ∙ append-nil (added_rows place p.staged);
      count = ap (λ changes. length (added_mids changes)) staged ∙ ap length (added_mids-append p.staged (Setting mid to ∷ []) ∙ append-nil (added_mids p.staged));
      some = ap are_some staged ∙ some-push p.staged (Setting mid to) ∙ or_something (are_some p.staged);
      offers = ap do_offer staged ∙ offer-append p.staged (Setting mid to ∷ []);
      lined = ap contains_add_app staged ∙ contains-append p.staged (Setting mid to ∷ []) ∙ sym (or_nothing (contains_add_app p.staged));
    }
line_staged change to p mid false r keeps h = record {
  rows = ap (λ q. length q.lines) h.1;
  app = ap (λ q. has_app_row q.lines) h.1;
  counter = ap (λ q. q.counter) h.1;
  restart = ap (λ q. staged_restart q.staged) h.1;
  channels = ap (λ q. q.channels) h.1;
  channel_rows = ap (λ q. q.rows) h.1;
  adds = λ place. ap (λ q. added_rows place q.staged) h.1;
  count = ap (λ q. length (added_mids q.staged)) h.1;
  some = ap (λ q. are_some q.staged) h.1 ∙ or_nothing (are_some p.staged);
  offers = ap (λ q. do_offer q.staged) h.1 ∙ or_nothing (do_offer p.staged);
  lined = ap (λ q. contains_add_app q.staged) h.1;
}

pub or_early : (a b : Bool) → true ≡ (a || (true || b))
or_early true b = refl
or_early false b = refl

-- a line of data channels that is staged is offered
pub lined_offers : (staged : List Change) → not (false || contains_add_app staged) ≡ false → do_offer staged ≡ true
lined_offers [] none = absurd (cc)
lined_offers (Adding media ∷ staged) there = refl
lined_offers (AddApp mid ∷ staged) there = refl
lined_offers (AddingChannel id config ∷ staged) there = lined_offers staged there
lined_offers (Setting mid dir ∷ staged) there = refl
lined_offers (Restarting creds keeps ∷ staged) there = refl
