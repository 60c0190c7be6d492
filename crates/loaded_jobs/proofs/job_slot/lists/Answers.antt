-- The path is in one of the three lists, or in none.
use Rattle.std.proofs.Common.{true, false, refl, sym, ap, ◌∙◌}
use Rattle.std.specs.List.{list_any}
use Rattle.history_model.specs.Demands.{is_same_path}
use Rattle.loaded_jobs.proofs.ListedPathsLemmas.{listed}
use Rattle.loaded_jobs.proofs.job_slot.lists.Goals as goal

pub returns-then-has_state : goal.returns-then-has_state
returns-then-has_state c =
    let path = c.args.path.now in
    let states = c.has_state.ensures ∙ ap (list_any (λ wish. is_same_path path wish.path)) c.path_state.ensures in
    listed c.args.def.now path true _ _ (sym c.if-has_state.true ∙ states) refl refl

pub returns-then-has_path : goal.returns-then-has_path
returns-then-has_path c =
    let path = c.args.path.now in
    let states = c.has_state.ensures ∙ ap (list_any (λ wish. is_same_path path wish.path)) c.path_state.ensures in
    let watched = c.has_path.ensures ∙ ap (list_any (is_same_path path)) c.watch_paths.ensures in
    listed c.args.def.now path false true _ (sym c.if-has_state.false ∙ states) (sym c.if-has_path.true ∙ watched) refl

pub returns : goal.returns
returns c =
    let path = c.args.path.now in
    let states = c.has_state.ensures ∙ ap (list_any (λ wish. is_same_path path wish.path)) c.path_state.ensures in
    let watched = c.has_path.ensures ∙ ap (list_any (is_same_path path)) c.watch_paths.ensures in
    let queued = c.has_path-2.ensures ∙ ap (list_any (is_same_path path)) c.queue_directories.ensures in
    listed c.args.def.now path false false _ (sym c.if-has_state.false ∙ states) (sym c.if-has_path.false ∙ watched) queued
