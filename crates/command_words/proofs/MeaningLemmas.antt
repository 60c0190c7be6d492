-- From what clap finds to what the words mean.
use Rattle.std.proofs.Common.{◌≡◌, ◌∙◌, ap, ap₂, sym, subst, refl, List, [], ◌∷◌, true, false, Option, Some, None, if◌then◌else◌, option_map}
use Rattle.clap.specs.Kinds.{Kinds, IsAmong}
use Rattle.clap.specs.Words.{App, Row, Text, fault_of, found_of, rows_of, matches_of, subcommand_name_of, subcommand_of, subcommand_rows_of, is_simple_and_free}
use Rattle.clap.specs.declared.error.kind.ErrorKind.{ErrorKind}
use Rattle.clap.specs.declared.parser.matches.ArgMatches.{ArgMatches}
use Rattle.clap.proofs.OnLiterals.{clap_on_literals}
use Rattle.command_words.specs.Meaning.{IsFound, is_empty_list}
use Rattle.command_words.specs.Jobctl.{jobctl_app, command_found, socket_in, found_meant, meant_beside}
use Rattle.command_words.specs.declared.command.Command.{Command}
use Rattle.command_words.specs.declared.command.Words.{Words}
use Rattle.command_words.specs.Jobd.{jobd_app, daemon_found_meant, daemon_meant}

pub none_more : (kinds : Kinds) → kinds ≡ [] → is_empty_list kinds ≡ true
none_more kinds e = ap is_empty_list e

pub some_more : (kinds : Kinds) (k : ErrorKind) → IsAmong k kinds → is_empty_list kinds ≡ false
some_more [] k h = absurd h
some_more (x ∷ xs) k h = refl

-- what two maps give of one value
both : {A B C : Type 0} (f : A → B × C) (o : Option A) (b : B) (c : C) → Some b ≡ option_map (λ a. (f a).0) o → Some c ≡ option_map (λ p. p.1) (option_map f o)
    → option_map f o ≡ Some (b, c)
both f None b c first second = cc
both f (Some a) b c first second =
    let left : (f a).0 ≡ b = cc in
    let right : (f a).1 ≡ c = cc in
    λ i. Some (left i, right i)

-- the subcommand that was met, with what was found of it
pub met : (m : ArgMatches) (name : Text) (rows : List Row) → Some name ≡ subcommand_name_of m → Some rows ≡ option_map (λ p. p.1) (subcommand_rows_of m)
    → subcommand_rows_of m ≡ Some (name, rows)
met m name rows called found = both _ _ name rows called found

-- ---- the control program

abbrev words_of : Text → Command → Words
words_of socket command = record { socket = socket; command = command }

pub words_meant : (default : Text) (top : List Row) (sub : Option (Text × List Row)) (socket : Text) (command : Command)
    → socket ≡ socket_in default top → Some command ≡ command_found sub → Some (words_of socket command) ≡ found_meant default top sub
words_meant default top sub socket command at is = λ i. option_map (words_of (at i)) (is i)

pub jobctl_simple : is_simple_and_free jobctl_app ≡ true
unfolding clap_on_literals
jobctl_simple = refl

pub meant_found : (default : Text) (a : App) (words : List Text) (m : ArgMatches) → a ≡ jobctl_app → (is_simple_and_free a ≡ true → IsFound a words m)
    → meant_beside default words ≡ found_meant default (rows_of (found_of m)) (subcommand_rows_of m)
meant_found default a words m is found =
    let f = subst (λ b. IsFound b words m) is (found (ap is_simple_and_free is ∙ jobctl_simple)) in
    ap (λ b. if b then found_meant default (matches_of jobctl_app words) (subcommand_of jobctl_app words) else None) f.none
    ∙ ap₂ (found_meant default) (sym f.rows) (sym f.subcommand)

pub meant_faulty : (default : Text) (a : App) (words : List Text) → a ≡ jobctl_app → (is_simple_and_free a ≡ true → is_empty_list (fault_of a words) ≡ false)
    → meant_beside default words ≡ None
meant_faulty default a words is faulty =
    let f = subst (λ b. is_empty_list (fault_of b words) ≡ false) is (faulty (ap is_simple_and_free is ∙ jobctl_simple)) in
    ap (λ b. if b then found_meant default (matches_of jobctl_app words) (subcommand_of jobctl_app words) else None) f

-- ---- the daemon

pub jobd_simple : is_simple_and_free jobd_app ≡ true
unfolding clap_on_literals
jobd_simple = refl

pub daemon_meant_found : (a : App) (words : List Text) (m : ArgMatches) → a ≡ jobd_app → (is_simple_and_free a ≡ true → IsFound a words m)
    → daemon_meant words ≡ daemon_found_meant (subcommand_rows_of m)
daemon_meant_found a words m is found =
    let f = subst (λ b. IsFound b words m) is (found (ap is_simple_and_free is ∙ jobd_simple)) in
    ap (λ b. if b then daemon_found_meant (subcommand_of jobd_app words) else None) f.none ∙ ap daemon_found_meant (sym f.subcommand)

pub daemon_meant_faulty : (a : App) (words : List Text) → a ≡ jobd_app → (is_simple_and_free a ≡ true → is_empty_list (fault_of a words) ≡ false)
    → daemon_meant words ≡ None
daemon_meant_faulty a words is faulty =
    let f = subst (λ b. is_empty_list (fault_of b words) ≡ false) is (faulty (ap is_simple_and_free is ∙ jobd_simple)) in
    ap (λ b. if b then daemon_found_meant (subcommand_of jobd_app words) else None) f
