-- What was read, said of what a source had left.
use Rattle.std.proofs.Common.{◌≡◌, ◌≤◌, ◌^◌, ◌⊎◌, inl, inr, ℕ, true, List, length, Option, subst}
use Rattle.std.specs.declared.alloc.Global.{Global}
use Rattle.std.specs.Io.KnownBytes.{Consumes, IsAtEnd}
use Rattle.rtc_run.specs.ProgramPair.{PlainPairState}
use Rattle.rtc_io.proofs.Told.{reads_input}
use Rattle.rtc_io.specs.Programs.{ReadsInput}
use Rattle.rtc_script.specs.Script.{IsScript, IsRefused}
use Rattle.rtc_script.specs.declared.script.Script.{Script}
use Rattle.rtc_script.specs.declared.script_error.ScriptError.{ScriptError}
use Rattle.rtc_script.specs.declared.script_error.ScriptError.TheVariants.{Line}
use Rattle.rtc_pair.specs.Answers.{RunsScript}
use Rattle.rtc_pair.specs.Performed.{PerformsScript}

pub reads_script : (a b : Option (List ℕ)) (bytes slice : List ℕ) (script : Script)
    → Consumes a b bytes → IsAtEnd b → length bytes ≤ 2 ^ 20 → slice ≡ bytes → IsScript slice script
    → ReadsInput a b (λ text. IsScript text script)
reads_script a b bytes slice script taken ended short same is =
    let Q : List ℕ → Type 0 = λ (text : List ℕ). IsScript text script in
    reads_input a b bytes Q taken ended short (subst Q same is)

pub reads_no_script : (a b : Option (List ℕ)) (bytes slice : List ℕ) (error : ScriptError) (line : ℕ)
    → Consumes a b bytes → IsAtEnd b → length bytes ≤ 2 ^ 20 → slice ≡ bytes → IsRefused slice error → error ≡ Line line
    → ReadsInput a b (λ text. IsRefused text (Line line))
reads_no_script a b bytes slice error line taken ended short same refused error_is =
    let Q : List ℕ → Type 0 = λ (text : List ℕ). IsRefused text (Line line) in
    reads_input a b bytes Q taken ended short (subst Q same (subst (λ (e : ScriptError). IsRefused slice e) error_is refused))

pub runs_or : (alloc : Global) (a b written written' : Option (List ℕ)) (last : Option PlainPairState) (script : Script) (R : Type 0)
    → ReadsInput a b (λ text. IsScript text script) → PerformsScript alloc true script written written' last ⊎ R
    → RunsScript alloc true a b written written' last ⊎ R
runs_or alloc a b written written' last script R read (inl performs) = inl (record { script = script; read = read; performs = performs })
runs_or alloc a b written written' last script R read (inr rest) = inr rest
