use Rattle.std.proofs.Common.{◌≡◌, inl, inr, map, rules, string_bytes}
use Rattle.rtc_pair.specs.Answers.{run_words}
use Rattle.rtc_pair.proofs.program.pair_main.Goals as goal

pub returns-in-Some-clause-done : goal.returns-in-Some-clause-done
returns-in-Some-clause-done g c = λ is.
    inr (c.in-Some.asked.0, c.in-Some.asked.1, c.in-Some.ensures.some, c.perform_demo.ensures.done is)

pub returns-in-Some-clause-write : goal.returns-in-Some-clause-write
returns-in-Some-clause-write g c = λ is.
    let broken = c.perform_demo.ensures.write is in
    record {
      text = broken.text;
      due = inl (c.in-Some.asked.0, c.in-Some.asked.1, c.in-Some.ensures.some, broken.due);
      front = broken.front;
      rose = broken.rose;
    }

pub returns-then-ask_for_run-clause-write : goal.returns-then-ask_for_run-clause-write
returns-then-ask_for_run-clause-write g c = λ is.
    let asked : map (λ word. string_bytes word) c.args.words.now ≡ run_words = search rules in
    let broken = c.run_main.ensures.write is in
    record {
      text = broken.text;
      due = elim broken.due [
        | inl unasked ↦ absurd unasked.0
        | inr due ↦ inr (inr (asked, due.1))
      ];
      front = broken.front;
      rose = broken.rose;
    }
