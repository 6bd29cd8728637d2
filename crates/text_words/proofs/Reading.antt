-- How what is read line by line is what all lines say, and that it is of root 1.
use Rattle.std.proofs.Common.{◌≡◌, ℕ, ◌+◌, ◌<◌, Option, Some, None, Result, Ok, Err, List, [], ◌∷◌, length, get_or, drop, drop-cons, add-one, refl, sym, subst, ap, inl, inr}
use Rattle.std.proofs.lemmas.List.Elements.{All-nil, All-push}
use Rattle.command_lang.specs.Reading.{SaysCompletion, IsOnlyCompletion, IsRefusal, RefusesNoCompletion, RefusesFirst}
use Rattle.command_lang.specs.Refusing.{SomeCompletion}
use Rattle.command_lang.specs.declared.reading.CommandFault.{CommandFault}
use Rattle.command_lang.specs.declared.reading.CommandFault.TheVariants.{Word as WordAt}
use Rattle.containers.specs.Settings.{filled}
use Rattle.flow_model.specs.Containers.{fresh}
use Rattle.flow_model.specs.declared.commands.Completion.{Completion}
use Rattle.flow_model.specs.declared.commands.Outcome.{Outcome}
use Rattle.flow_model.specs.declared.commands.Target.{Target as TargetOf}
use Rattle.flow_model.specs.declared.commands.Target.TheVariants as target
use Rattle.flow_model.specs.declared.graphs.Activity.{Activity}
use Rattle.flow_model.specs.declared.graphs.Container.{Container}
use Rattle.flow_model.specs.declared.graphs.Graph.{Graph}
use Rattle.flow_model.specs.declared.graphs.Template.{Template}
use Rattle.flow_model.specs.declared.instances.Fact.{Fact}
use Rattle.flow_model.specs.declared.instances.Path.{Path}
use Rattle.flow_model.specs.declared.transactions.Setting.{Setting}
use Rattle.text_words.specs.Attempts.{next_of}
use Rattle.text_words.specs.Completions.{IsWrongAt, Said, unsaid, said, with_fault, with_settings, NamesItem, program_at, SaysOf, SaysItem, SaysLine, SaysBehind, AreRead, IsRead, AreOfOne}
use Rattle.text_words.specs.declared.completions.LineFault.{LineFault}
use Rattle.text_words.specs.declared.completions.LineFault.TheVariants.{Word, Target}
use Rattle.text_words.specs.declared.completions.Read.{Read}
use Rattle.text_words.specs.declared.input.Numbered.{Numbered}

-- one line less is left to be read
pub next_line : (ts : List Template) (g : Graph) (lines : List Numbered) (i : ℕ) (x : Numbered) (old mid : Said) → i < length lines → x ≡ get_or lines i x → SaysBehind ts g x old.fault old mid
    → ((last : Said) → AreRead ts g (drop i lines) old last → AreRead ts g lines unsaid last)
    → (last : Said) → AreRead ts g (drop (i + 1) lines) mid last → AreRead ts g lines unsaid last
next_line ts g lines i x old mid less is says before last rest =
    let left : drop i lines ≡ x ∷ drop (i + 1) lines = rw (drop-cons lines i x less, sym is, add-one i) refl in
    before last (subst (λ (ls : List Numbered). AreRead ts g ls old last) (sym left) (mid, says, rest))

-- what is said of the bytes of a line is said of the line
pub spoken_line : (bytes line : List ℕ) (o : Option Completion) (c : Completion) → bytes ≡ line → o ≡ Some c → SaysCompletion bytes o → SaysCompletion line (Some c)
spoken_line bytes line o c same is h = subst (λ (l : List ℕ). SaysCompletion l (Some c)) same (subst (λ (s : Option Completion). SaysCompletion bytes s) is h)

pub only_line : (bytes line : List ℕ) (o : Option Completion) (c : Completion) → bytes ≡ line → o ≡ Some c → IsOnlyCompletion bytes o → IsOnlyCompletion line (Some c)
only_line bytes line o c same is h = subst (λ (l : List ℕ). IsOnlyCompletion l (Some c)) same (subst (λ (s : Option Completion). IsOnlyCompletion bytes s) is h)

pub refused_line : (bytes line : List ℕ) (e : CommandFault) (place : ℕ) → bytes ≡ line → e ≡ WordAt place → IsRefusal bytes e → RefusesNoCompletion bytes e → RefusesFirst SomeCompletion bytes e → IsWrongAt line place
refused_line bytes line e place same is h none first = record {
  refused = subst (λ (l : List ℕ). IsRefusal l (WordAt place)) same (subst (λ (f : CommandFault). IsRefusal bytes f) is h);
  none = subst (λ (l : List ℕ). RefusesNoCompletion l (WordAt place)) same (subst (λ (f : CommandFault). RefusesNoCompletion bytes f) is none);
  first = subst (λ (l : List ℕ). RefusesFirst SomeCompletion l (WordAt place)) same (subst (λ (f : CommandFault). RefusesFirst SomeCompletion bytes f) is first);
}

-- what is said is so where it is something of which that holds
of_same : (a b : Said) → a ≡ b → AreOfOne b.facts → AreOfOne a.facts
of_same a b same all = subst (λ (s : Said). AreOfOne s.facts) (sym same) all

-- an item that is named is of root 1
of_item : (facts : List Fact) (t : TargetOf) (path : Path) → NamesItem facts t (Some path) → path.root ≡ 1
of_item facts (target.Activity name) path h = let e : path ≡ next_of name facts = cc in ap (λ (p : Path). p.root) e
of_item facts (target.Item token) path h = h.of_one

of_settings : (number : ℕ) (item : Path) (output : Container) (made : Result (List Setting) ℕ) (old : Said) → item.root ≡ 1 → AreOfOne old.facts → AreOfOne (with_settings number item output made old).facts
of_settings number item output (Ok settings) old is all = All-push (λ (fact : Fact). fact.item.root ≡ 1) old.facts (record { item = item; output = filled settings output }) all is
of_settings number item output (Err place) old is all = All-push (λ (fact : Fact). fact.item.root ≡ 1) old.facts (record { item = item; output = output }) all is

of_activity : (number : ℕ) (o : Outcome) (item : Path) (a : Option Activity) (old new : Said) → item.root ≡ 1 → SaysOf number o item a old new → AreOfOne old.facts → AreOfOne new.facts
of_activity number o item None old new is h all = of_same new (with_fault number Target old) h all
of_activity number o item (Some a) old new is h all = of_same new (with_settings number item (fresh a.output) h.0 old) h.2 (of_settings number item (fresh a.output) h.0 old is all)

of_named : (ts : List Template) (g : Graph) (number : ℕ) (o : Outcome) (t : TargetOf) (item : Option Path) (old new : Said) → NamesItem old.facts t item → SaysItem ts g number o item old new → AreOfOne old.facts → AreOfOne new.facts
of_named ts g number o t None old new named h all = of_same new (with_fault number Target old) h all
of_named ts g number o t (Some item) old new named h all = of_activity number o item (program_at ts item.parts g) old new (of_item old.facts t item named) h all

of_line : (ts : List Template) (g : Graph) (line : Numbered) (old new : Said) → SaysLine ts g line old new → AreOfOne old.facts → AreOfOne new.facts
of_line ts g line old new (inl h) all = of_same new old h.same all
of_line ts g line old new (inr (inl h)) all = of_named ts g line.number h.completion.outcome h.completion.target h.says.item old new h.says.named h.says.says all
of_line ts g line old new (inr (inr h)) all = of_same new (with_fault line.number (Word h.place) old) h.stops all

of_next : (ts : List Template) (g : Graph) (line : Numbered) (fault : Option (ℕ × LineFault)) (old new : Said) → SaysBehind ts g line fault old new → AreOfOne old.facts → AreOfOne new.facts
of_next ts g line None old new h all = of_line ts g line old new h all
of_next ts g line (Some fault) old new h all = of_same new old h all

of_lines : (ts : List Template) (g : Graph) (lines : List Numbered) (old new : Said) → AreRead ts g lines old new → AreOfOne old.facts → AreOfOne new.facts
of_lines ts g [] old new h all = of_same new old h all
of_lines ts g (line ∷ lines) old new h all = of_lines ts g lines h.0 new h.2 (of_next ts g line old.fault old h.0 h.1 all)

-- the completions of lines are of root 1
pub of_one : (ts : List Template) (g : Graph) (lines : List Numbered) (read : Read) → IsRead ts g lines read → AreOfOne read.counted.facts.items
of_one ts g lines read h = of_lines ts g lines unsaid (said read) h (All-nil (λ (fact : Fact). fact.item.root ≡ 1))
