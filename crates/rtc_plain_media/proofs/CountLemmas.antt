-- How often numbers stand among the sources of lines, after each change of the lines.
use Rattle.std.proofs.Common.{◌≡◌, ◌==◌, ◌+◌, ◌-◌, ◌*◌, ◌^◌, ◌<◌, ◌≤◌, ◌||◌, ℕ, nat_eq, Bool, true, false, cond, nat_lt, Option, Some, None, List, [], ◌∷◌, length, refl, sym, ap, ◌∙◌, arith}
use Rattle.std.specs.List.{list_any}
use Rattle.std.specs.Map.{lookup, set_value}
use Rattle.std.specs.Option.{unwrap_or}
use Rattle.indexmap.specs.IndexMap.{IndexMap, insert_entry, spare}
use Rattle.rtc_sdp_values.specs.declared.ssrc.Ssrc.{Ssrc}
use Rattle.rtc_parts.specs.declared.media_update.MediaUpdate.{MediaUpdate}
use Rattle.rtc_plain_media.specs.declared.plain_mark.PlainMark.{PlainMark}
use Rattle.rtc_plain_media.specs.declared.line_key.LineKey.{LineKey}
use Rattle.rtc_plain_media.specs.declared.held_line.HeldLine.{HeldLine}
use Rattle.rtc_plain_media.specs.Streams.{is_ssrc}
use Rattle.rtc_parts.specs.MediaUpdates.{update_mid}
use Rattle.rtc_plain_media.specs.Lines.{Lines, same_key, key_of, held_line, writer_mark, set_line, without_lines}
use Rattle.rtc_plain_media.specs.MediaContents.{source_uses, line_uses}
use Rattle.rtc_plain_media.specs.SourceCounts.{same_once, ssrc_count, source_count, sources_count, update_count, lines_count, held_count, gone_count, update_numbers, updates_numbers, count_for, CountsLines, CountsLess, KeepsCounts}

-- a line is put in the place of that of its key, or goes last
pub count_put : (n : ℕ) (key : LineKey) (line : HeldLine) (lines : Lines)
    → lines_count n (insert_entry same_key lines key line) + held_count n (lookup (same_key key) lines) ≡ lines_count n lines + update_count n line.update
count_put n key line [] = omega arith
count_put n key line (e ∷ es) = by (same_key key e.0) refl (count_put n key line es)
  where
    by : (b : Bool) → same_key key e.0 ≡ b → lines_count n (insert_entry same_key es key line) + held_count n (lookup (same_key key) es) ≡ lines_count n es + update_count n line.update
        → lines_count n (insert_entry same_key (e ∷ es) key line) + held_count n (lookup (same_key key) (e ∷ es)) ≡ lines_count n (e ∷ es) + update_count n line.update
    by true is rest = rw is (omega arith)
    by false is rest = rw is (omega (arith, rest))

-- lines are dropped
pub count_without : (n : ℕ) (gone : List ℕ → Bool) (lines : Lines) → lines_count n (without_lines gone lines) + gone_count n gone lines ≡ lines_count n lines
count_without n gone [] = omega arith
count_without n gone (e ∷ es) = by (gone e.0.mid) refl (count_without n gone es)
  where
    by : (b : Bool) → gone e.0.mid ≡ b → lines_count n (without_lines gone es) + gone_count n gone es ≡ lines_count n es
        → lines_count n (without_lines gone (e ∷ es)) + gone_count n gone (e ∷ es) ≡ lines_count n (e ∷ es)
    by true is rest = rw is (omega (arith, rest))
    by false is rest = rw is (omega (arith, rest))

abbrev update_in : Option HeldLine → MediaUpdate → MediaUpdate
update_in None other = other
update_in (Some held) other = held.update

-- a writer's mark is no source
pub count_marked : (n : ℕ) (test : LineKey → Bool) (line : HeldLine) (mark : PlainMark) (lines : Lines) → Some line ≡ lookup test lines
    → lines_count n (set_value test lines (record line { mark = mark })) ≡ lines_count n lines
count_marked n test line mark [] found = refl
count_marked n test line mark (e ∷ es) found = by (test e.0) refl found (count_marked n test line mark es)
  where
    by : (b : Bool) → test e.0 ≡ b → Some line ≡ lookup test (e ∷ es) → (Some line ≡ lookup test es → lines_count n (set_value test es (record line { mark = mark })) ≡ lines_count n es)
        → lines_count n (set_value test (e ∷ es) (record line { mark = mark })) ≡ lines_count n (e ∷ es)
    by true is found rest =
        let same : Some line ≡ Some e.1 = rw is at found in
        rw is (ap (λ (o : Option HeldLine). update_count n (update_in o line.update) + lines_count n es) same)
    by false is found rest = rw is (ap (λ (k : ℕ). update_count n e.1.update + k) (rest (rw is at found)))

-- one in use is one whose count is not 0
ssrc_used_once : (n : ℕ) (held : Option Ssrc) → is_ssrc held (record { 0 = n }) ≡ nat_lt 0 (ssrc_count n held)
ssrc_used_once n None = refl
ssrc_used_once n (Some ssrc) = used_once (ssrc.0 == n)
  where
    used_once : (b : Bool) → b ≡ nat_lt 0 (cond b 1 0)
    used_once true = refl
    used_once false = refl

positive_sum : (a b : ℕ) → (nat_lt 0 a || nat_lt 0 b) ≡ nat_lt 0 (a + b)
positive_sum a b = grind arith

source_used : (n : ℕ) (source : Ssrc × Option Ssrc) → source_uses (record { 0 = n }) source ≡ nat_lt 0 (source_count n source)
source_used n source =
    ap (λ (b : Bool). b || is_ssrc source.1 (record { 0 = n })) (ssrc_used_once n (Some source.0))
    ∙ ap (λ (b : Bool). nat_lt 0 (ssrc_count n (Some source.0)) || b) (ssrc_used_once n source.1)
    ∙ positive_sum (ssrc_count n (Some source.0)) (ssrc_count n source.1)

sources_used : (n : ℕ) (sources : List (Ssrc × Option Ssrc)) → list_any (source_uses (record { 0 = n })) sources ≡ nat_lt 0 (sources_count n sources)
sources_used n [] = refl
sources_used n (source ∷ sources) =
    ap (λ (b : Bool). b || list_any (source_uses (record { 0 = n })) sources) (source_used n source)
    ∙ ap (λ (b : Bool). nat_lt 0 (source_count n source) || b) (sources_used n sources)
    ∙ positive_sum (source_count n source) (sources_count n sources)

line_used : (n : ℕ) (line : LineKey × HeldLine) → line_uses (record { 0 = n }) line ≡ nat_lt 0 (update_count n line.1.update)
line_used n line =
    ap (λ (b : Bool). b || list_any (source_uses (record { 0 = n })) line.1.update.ssrcs_rx) (sources_used n line.1.update.ssrcs_tx)
    ∙ ap (λ (b : Bool). nat_lt 0 (sources_count n line.1.update.ssrcs_tx) || b) (sources_used n line.1.update.ssrcs_rx)
    ∙ positive_sum (sources_count n line.1.update.ssrcs_tx) (sources_count n line.1.update.ssrcs_rx)

pub lines_used : (ssrc : Ssrc) (lines : Lines) → list_any (line_uses ssrc) lines ≡ nat_lt 0 (lines_count ssrc.0 lines)
lines_used ssrc [] = refl
lines_used ssrc (line ∷ lines) =
    ap (λ (b : Bool). b || list_any (line_uses ssrc) lines) (line_used ssrc.0 line)
    ∙ ap (λ (b : Bool). nat_lt 0 (update_count ssrc.0 line.1.update) || b) (lines_used ssrc lines)
    ∙ positive_sum (update_count ssrc.0 line.1.update) (lines_count ssrc.0 lines)

-- what is left of a count, from what the lines had
pub counts_put : (n : ℕ) (u : MediaUpdate) (lines left : Lines) (old new : ℕ) → left ≡ set_line u lines → old ≡ lines_count n lines
    → new ≡ old + update_count n u - held_count n (held_line (update_mid u) lines) → new ≡ lines_count n left
counts_put n u lines left old new is held made =
    let line : HeldLine = record { update = u; mark = writer_mark (held_line (update_mid u) lines) } in
    rw is (omega (arith, made, held, count_put n (key_of (update_mid u)) line lines))

pub counts_dropped : (n : ℕ) (gone : List ℕ → Bool) (lines left : Lines) (old new : ℕ) → left ≡ without_lines gone lines → old ≡ lines_count n lines
    → new ≡ old - gone_count n gone lines → new ≡ lines_count n left
counts_dropped n gone lines left old new is held made = rw is (omega (arith, made, held, count_without n gone lines))

-- a line has no more numbers than room is made for
once_most : (n k : ℕ) → same_once n k ≤ 1
once_most n k = one (k == n)
  where
    one : (b : Bool) → cond b 1 0 ≤ 1
    one true = omega arith
    one false = omega arith

ssrc_most : (n : ℕ) (held : Option Ssrc) → ssrc_count n held ≤ 1
ssrc_most n None = omega arith
ssrc_most n (Some ssrc) = once_most n ssrc.0

pub source_most : (n : ℕ) (source : Ssrc × Option Ssrc) → source_count n source ≤ 2
source_most n source = omega (arith, once_most n source.0.0, ssrc_most n source.1)

pub sources_most : (n : ℕ) (sources : List (Ssrc × Option Ssrc)) → sources_count n sources ≤ 2 * length sources
sources_most n [] = omega arith
sources_most n (source ∷ sources) = omega (arith, source_most n source, sources_most n sources)

pub update_most : (n : ℕ) (u : MediaUpdate) → update_count n u ≤ update_numbers u
update_most n u = omega (arith, sources_most n u.ssrcs_tx, sources_most n u.ssrcs_rx)

-- what a part keeps of its counts, after each call
pub count_same : {S : Type 0} (old new : IndexMap ℕ ℕ S) (n : ℕ) → new.entries ≡ old.entries → count_for new n ≡ count_for old n
count_same old new n same = ap (λ (es : List (ℕ × ℕ)). unwrap_or (lookup (nat_eq n) es) 0) same

pub keeps_reserved : {S : Type 0} (old new : IndexMap ℕ ℕ S) (most : ℕ) (pending : List MediaUpdate) (lines left : Lines)
    → new.entries ≡ old.entries → spare old ≤ spare new → left ≡ lines → KeepsCounts old most pending lines → KeepsCounts new most pending left
keeps_reserved old new most pending lines left same more is held = record {
  room = omega (arith, held.room, more);
  bounded = held.bounded;
  fits = λ n. omega (arith, held.fits n, count_same old new n same);
  exact = λ n. count_same old new n same ∙ held.exact n ∙ ap (λ (ls : Lines). lines_count n ls) (sym is);
}

pub keeps_prepared : {S : Type 0} (old new : IndexMap ℕ ℕ S) (most more : ℕ) (pending updates : List MediaUpdate) (lines left : Lines)
    → new.entries ≡ old.entries → updates_numbers updates ≤ spare new → more ≡ most + updates_numbers updates → more < 2 ^ 64 → left ≡ lines
    → KeepsCounts old most pending lines → KeepsCounts new more updates left
keeps_prepared old new most more pending updates lines left same room sum bounded is held = record {
  room = room;
  bounded = bounded;
  fits = λ n. omega (arith, held.fits n, count_same old new n same, sum);
  exact = λ n. count_same old new n same ∙ held.exact n ∙ ap (λ (ls : Lines). lines_count n ls) (sym is);
}

pub keeps_dropped : {S : Type 0} (old new : IndexMap ℕ ℕ S) (most : ℕ) (pending : List MediaUpdate) (lines left : Lines)
    → spare old ≤ spare new → CountsLess old new → (CountsLines old lines → CountsLines new left) → KeepsCounts old most pending lines → KeepsCounts new most pending left
keeps_dropped old new most pending lines left more less exact held = record {
  room = omega (arith, held.room, more);
  bounded = held.bounded;
  fits = λ n. omega (arith, held.fits n, less n);
  exact = exact held.exact;
}

pub keeps_applied : {S : Type 0} (old new : IndexMap ℕ ℕ S) (most : ℕ) (pending none : List MediaUpdate) (lines left : Lines)
    → none ≡ [] → ((n : ℕ) → count_for new n ≤ count_for old n + updates_numbers pending) → CountsLines new left → KeepsCounts old most pending lines → KeepsCounts new most none left
keeps_applied old new most pending none lines left is less exact held =
    let nothing : updates_numbers none ≡ 0 = rw is refl in
    record {
      room = omega (arith, nothing);
      bounded = held.bounded;
      fits = λ n. omega (arith, held.fits n, less n, nothing);
      exact = exact;
    }

pub keeps_marked : {S : Type 0} (counts : IndexMap ℕ ℕ S) (most : ℕ) (pending : List MediaUpdate) (lines left : Lines) (test : LineKey → Bool) (line : HeldLine) (mark : PlainMark)
    → left ≡ set_value test lines (record line { mark = mark }) → Some line ≡ lookup test lines → KeepsCounts counts most pending lines → KeepsCounts counts most pending left
keeps_marked counts most pending lines left test line mark is found held = record {
  room = held.room;
  bounded = held.bounded;
  fits = held.fits;
  exact = λ n. held.exact n ∙ sym (ap (λ (ls : Lines). lines_count n ls) is ∙ count_marked n test line mark lines found);
}
