-- The index of staged changes stays right as changes are staged.
use Rattle.std.proofs.Common.{◌≡◌, ◌+◌, ◌-◌, ◌%◌, ◌^◌, ◌<◌, ◌∙◌, ◌||◌, not, ℕ, Bool, true, false, cond, filter, List, [], ◌∷◌, ◌++◌, length, Option, Some, None, refl, sym, ap, arith, length-append, append_assoc, Ok}
use Rattle.std.specs.Prelude.{is_some}
use Rattle.std.specs.List.{list_any}
use Rattle.std.specs.BTreeSet as set
use Rattle.std.specs.BTreeSet.{BTreeSet}
use Rattle.std.specs.BTreeMap.{is_at}
use Rattle.std.specs.Cmp.Lexicographic.{slice_cmp}
use Rattle.std.specs.Ordering.{nat_cmp}
use Rattle.std.specs.Str.{bytes_eq}
use Rattle.std.proofs.lemmas.List.Folds.{list_any-append}
use Rattle.std.proofs.lemmas.Map.Text.{is_eq-slice_cmp}
use Rattle.rtc_sdp_values.specs.declared.direction.Direction.{Direction}
use Rattle.rtc_wire.specs.declared.channel_config.ChannelConfig.{ChannelConfig}
use Rattle.rtc_change.specs.declared.add_media.AddMedia.{AddMedia as Media}
use Rattle.rtc_change.specs.declared.change.Change.{Change}
use Rattle.rtc_change.specs.declared.change.Change.TheVariants.{AddMedia, AddApp, AddChannel, Direction as SetDirection, IceRestart}
use Rattle.rtc_change.specs.PendingOffer.{added_mids, adds_mid, contains_add_app, is_add_app}
use Rattle.rtc_change.proofs.AddedLemmas.{added_mids-append}
use Rattle.rtc_peer_rows.specs.Table.{app_of, has_mid}
use Rattle.rtc_sdp_values.specs.declared.line_row.LineRow.{LineRow}
use Rattle.rtc_channels.specs.Channels.{Channels, MakesChannel}
use Rattle.rtc_parts.specs.Draws.{Draws}
use Rattle.rtc_peer_core.specs.Names.{free_mid, is_held, next_mid}
use Rattle.rtc_peer_core.specs.Staging.{StagesChannel, lacks_app, lacking_app, after_app, is_kept_by_restart, with_restart}
use Rattle.rtc_sdp_values.specs.declared.ice_creds.IceCreds.{IceCreds}
use Rattle.rtc_peer_core.proofs.FreeMid.{free_mid-same, drawn_mid_is_free}
use Rattle.rtc_peer_core.specs.StagedIndex.{IsIndexed, is_indexed_mid, is_mid}

-- nothing is staged
pub nothing_indexed : (mids : BTreeSet (List ℕ)) → mids.keys ≡ [] → IsIndexed [] mids None 0
nothing_indexed mids empty = record {
  held = λ mid. ap (λ (keys : List (List ℕ)). list_any (is_at (slice_cmp nat_cmp mid)) keys) empty;
  has_app = refl;
  counted = refl;
}

-- a set with the same keys serves as well
pub same_keys_indexed : (changes : List Change) (mids mids' : BTreeSet (List ℕ)) (app : Option (List ℕ)) (count : ℕ) → IsIndexed changes mids app count → mids'.keys ≡ mids.keys → IsIndexed changes mids' app count
same_keys_indexed changes mids mids' app count index keys = record {
  held = λ mid. ap (λ (ks : List (List ℕ)). is_mid app mid || list_any (is_at (slice_cmp nat_cmp mid)) ks) keys ∙ index.held mid;
  has_app = index.has_app;
  counted = index.counted;
}

adds_mid-append : (mid : List ℕ) (changes more : List Change) → adds_mid mid (changes ++ more) ≡ (adds_mid mid changes || adds_mid mid more)
adds_mid-append mid changes more =
    ap (λ (mids : List (List ℕ)). list_any (λ other. bytes_eq other mid) mids) (added_mids-append changes more)
    ∙ list_any-append (λ other. bytes_eq other mid) (added_mids changes) (added_mids more)

-- more is staged, and the index grows with it
grown : (changes more : List Change) (mids mids' : BTreeSet (List ℕ)) (app app' : Option (List ℕ)) (count count' : ℕ) → IsIndexed changes mids app count
    → ((mid : List ℕ) → is_indexed_mid mids' app' mid ≡ (is_indexed_mid mids app mid || adds_mid mid more))
    → is_some app' ≡ (is_some app || contains_add_app more) → count' ≡ count + length (added_mids more)
    → IsIndexed (changes ++ more) mids' app' count'
grown changes more mids mids' app app' count count' index holds has counts = record {
  held = λ mid. holds mid ∙ ap (λ (b : Bool). b || adds_mid mid more) (index.held mid) ∙ sym (adds_mid-append mid changes more);
  has_app = has ∙ ap (λ (b : Bool). b || contains_add_app more) index.has_app ∙ sym (list_any-append is_add_app changes more);
  counted = counts ∙ ap (λ (n : ℕ). n + length (added_mids more)) index.counted
      ∙ sym (ap length (added_mids-append changes more) ∙ length-append (added_mids changes) (added_mids more));
}

same : (a : Bool) → a ≡ (a || false)
same true = refl
same false = refl

no_more : (n : ℕ) → n ≡ n + 0
no_more n = omega arith

-- a direction is staged
pub direction_indexed : (changes : List Change) (mids : BTreeSet (List ℕ)) (app : Option (List ℕ)) (count : ℕ) (mid : List ℕ) (dir : Direction)
    → IsIndexed changes mids app count → IsIndexed (changes ++ SetDirection mid dir ∷ []) mids app count
direction_indexed changes mids app count mid dir index =
    grown changes (SetDirection mid dir ∷ []) mids mids app app count count index (λ other. same (is_indexed_mid mids app other)) (same (is_some app)) (no_more count)

-- a channel is staged
pub channel_indexed : (changes : List Change) (mids : BTreeSet (List ℕ)) (app : Option (List ℕ)) (count : ℕ) (id : ℕ) (config : ChannelConfig)
    → IsIndexed changes mids app count → IsIndexed (changes ++ AddChannel id config ∷ []) mids app count
channel_indexed changes mids app count id config index =
    grown changes (AddChannel id config ∷ []) mids mids app app count count index (λ other. same (is_indexed_mid mids app other)) (same (is_some app)) (no_more count)

behind : (first second : Bool) → (second || first) ≡ (first || (second || false))
behind true true = refl
behind true false = refl
behind false true = refl
behind false false = refl

-- the line of the data channels is staged
pub app_indexed : (changes : List Change) (mids : BTreeSet (List ℕ)) (count : ℕ) (app : Option (List ℕ)) (mid : List ℕ)
    → IsIndexed changes mids app count → is_some app ≡ false → IsIndexed (changes ++ AddApp mid ∷ []) mids (Some mid) (count + 1)
app_indexed changes mids count None mid index none =
    grown changes (AddApp mid ∷ []) mids mids None (Some mid) count (count + 1) index
    (λ other. behind (set.contains (slice_cmp nat_cmp) mids other) (bytes_eq mid other)) refl refl
app_indexed changes mids count (Some own) mid index none = absurd (let e : true ≡ false = none in cc)

inserted : (a b c : Bool) → (a || cond b true c) ≡ ((a || c) || (b || false))
inserted true b c = refl
inserted false true true = refl
inserted false true false = refl
inserted false false true = refl
inserted false false false = refl

-- a media line is staged
pub media_indexed : (changes : List Change) (mids mids' : BTreeSet (List ℕ)) (app : Option (List ℕ)) (count : ℕ) (media : Media)
    → IsIndexed changes mids app count
    → ((mid : List ℕ) → set.contains (slice_cmp nat_cmp) mids' mid ≡ cond (is_at (slice_cmp nat_cmp media.mid) mid) true (set.contains (slice_cmp nat_cmp) mids mid))
    → IsIndexed (changes ++ AddMedia media ∷ []) mids' app (count + 1)
media_indexed changes mids mids' app count media index insertion =
    grown changes (AddMedia media ∷ []) mids mids' app app count (count + 1) index
    (λ mid. ap (λ (b : Bool). is_mid app mid || b) (insertion mid ∙ ap (λ (b : Bool). cond b true (set.contains (slice_cmp nat_cmp) mids mid)) (is_eq-slice_cmp media.mid mid))
    ∙ inserted (is_mid app mid) (bytes_eq media.mid mid) (set.contains (slice_cmp nat_cmp) mids mid))
    (same (is_some app)) refl

-- the mid that is found by the index is the next
pub drawn_is_next : {N : Type 0} (draws : Draws N) (rows : List LineRow) (staged : List Change) (mids : BTreeSet (List ℕ)) (app : Option (List ℕ)) (count total : ℕ) (ids : N)
    → IsIndexed staged mids app count → total ≡ length rows + count
    → free_mid (λ mid. has_mid mid rows || is_indexed_mid mids app mid) total (draws.drawn ids % 2 ^ 32) ≡ next_mid draws rows staged ids
drawn_is_next draws rows staged mids app count total ids index sum =
    free_mid-same (λ mid. has_mid mid rows || is_indexed_mid mids app mid) (is_held rows staged) (λ mid. ap (λ (b : Bool). has_mid mid rows || b) (index.held mid)) total (draws.drawn ids % 2 ^ 32)
    ∙ ap (λ (tries : ℕ). free_mid (is_held rows staged) tries (draws.drawn ids % 2 ^ 32)) (sum ∙ ap (λ (n : ℕ). length rows + n) index.counted)

-- and that is free
pub next_is_free : {N : Type 0} (draws : Draws N) (rows : List LineRow) (staged : List Change) (mids : BTreeSet (List ℕ)) (app : Option (List ℕ)) (count total : ℕ) (ids : N)
    → IsIndexed staged mids app count → total ≡ length rows + count → total < 2 ^ 32 - 1
    → is_held rows staged (next_mid draws rows staged ids) ≡ false
next_is_free draws rows staged mids app count total ids index sum few =
    drawn_mid_is_free rows staged (draws.drawn ids % 2 ^ 32) (omega arith) (omega (arith, index.counted))

-- a channel is staged with the line of the data channels
pub staged_with_app : {N : Type 0} (draws : Draws N) (rows : List LineRow) (ids ids' : N) (staged staged' : List Change) (held held' : Channels) (config : ChannelConfig) (id : ℕ) (mid : List ℕ)
    → lacks_app rows staged ≡ true → MakesChannel held config (Ok id) held'
    → staged' ≡ (staged ++ AddApp mid ∷ []) ++ AddChannel id config ∷ [] → mid ≡ next_mid draws rows staged ids → ids' ≡ draws.after ids
    → is_held rows staged (next_mid draws rows staged ids) ≡ false
    → StagesChannel draws rows ids staged held config (Ok id) ids' staged' held'
staged_with_app draws rows ids ids' staged staged' held held' config id mid lacks makes is drawn after free = (
  makes.0,
  makes.1,
  makes.2,
  is ∙ ap (λ (m : List ℕ). (staged ++ AddApp m ∷ []) ++ AddChannel id config ∷ []) drawn ∙ append_assoc staged (AddApp (next_mid draws rows staged ids) ∷ []) (AddChannel id config ∷ [])
      ∙ ap (λ (needed : Bool). staged ++ (lacking_app draws rows staged ids needed ++ AddChannel id config ∷ [])) (sym lacks),
  after ∙ ap (λ (needed : Bool). after_app draws ids needed) (sym lacks),
  λ _. free,
)

-- a channel is staged alone
pub staged_alone : {N : Type 0} (draws : Draws N) (rows : List LineRow) (ids : N) (staged staged' : List Change) (held held' : Channels) (config : ChannelConfig) (id : ℕ)
    → lacks_app rows staged ≡ false → MakesChannel held config (Ok id) held' → staged' ≡ staged ++ AddChannel id config ∷ []
    → StagesChannel draws rows ids staged held config (Ok id) ids staged' held'
staged_alone draws rows ids staged staged' held held' config id lacks makes is = (
  makes.0,
  makes.1,
  makes.2,
  is ∙ ap (λ (needed : Bool). staged ++ (lacking_app draws rows staged ids needed ++ AddChannel id config ∷ [])) (sym lacks),
  ap (λ (needed : Bool). after_app draws ids needed) (sym lacks),
  λ lacking. absurd (let e : true ≡ false = sym lacking ∙ lacks in cc),
)

-- the index tells whether the line is lacking
pub lacking_by : (rows : List LineRow) (staged : List Change) (mids : BTreeSet (List ℕ)) (app : Option (List ℕ)) (count : ℕ) → IsIndexed staged mids app count
    → not (is_some (app_of rows) || is_some app) ≡ lacks_app rows staged
lacking_by rows staged mids app count index = ap (λ (b : Bool). not (is_some (app_of rows) || b)) index.has_app

-- where it is lacking, none is staged
pub none_staged : (row app : Bool) → not (row || app) ≡ true → app ≡ false
none_staged true true h = absurd (let e : false ≡ true = h in cc)
none_staged true false h = refl
none_staged false true h = absurd (let e : false ≡ true = h in cc)
none_staged false false h = refl

kept_mids : (changes : List Change) → added_mids (filter is_kept_by_restart changes) ≡ added_mids changes
kept_mids [] = refl
kept_mids (AddMedia media ∷ changes) = ap (λ (mids : List (List ℕ)). media.mid ∷ mids) (kept_mids changes)
kept_mids (AddApp mid ∷ changes) = ap (λ (mids : List (List ℕ)). mid ∷ mids) (kept_mids changes)
kept_mids (AddChannel id config ∷ changes) = kept_mids changes
kept_mids (SetDirection mid dir ∷ changes) = kept_mids changes
kept_mids (IceRestart creds keeps ∷ changes) = kept_mids changes

kept_app : (changes : List Change) → contains_add_app (filter is_kept_by_restart changes) ≡ contains_add_app changes
kept_app [] = refl
kept_app (AddMedia media ∷ changes) = kept_app changes
kept_app (AddApp mid ∷ changes) = refl
kept_app (AddChannel id config ∷ changes) = kept_app changes
kept_app (SetDirection mid dir ∷ changes) = kept_app changes
kept_app (IceRestart creds keeps ∷ changes) = kept_app changes

kept_indexed : (changes : List Change) (mids : BTreeSet (List ℕ)) (app : Option (List ℕ)) (count : ℕ)
    → IsIndexed changes mids app count → IsIndexed (filter is_kept_by_restart changes) mids app count
kept_indexed changes mids app count index = record {
  held = λ mid. index.held mid ∙ ap (λ (added : List (List ℕ)). list_any (λ other. bytes_eq other mid) added) (sym (kept_mids changes));
  has_app = index.has_app ∙ sym (kept_app changes);
  counted = index.counted ∙ ap length (sym (kept_mids changes));
}

-- a restart is staged
pub restart_indexed : (changes : List Change) (mids : BTreeSet (List ℕ)) (app : Option (List ℕ)) (count : ℕ) (creds : IceCreds) (keeps : Bool)
    → IsIndexed changes mids app count → IsIndexed (with_restart creds keeps changes) mids app count
restart_indexed changes mids app count creds keeps index =
    grown (filter is_kept_by_restart changes) (IceRestart creds keeps ∷ []) mids mids app app count count (kept_indexed changes mids app count index)
    (λ other. same (is_indexed_mid mids app other)) (same (is_some app)) (no_more count)
