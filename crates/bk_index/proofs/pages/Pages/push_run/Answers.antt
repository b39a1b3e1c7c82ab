use Rattle.std.proofs.Common.{◌<◌, length, ap, ◌∙◌, arith}
use Rattle.bk_index.specs.Pages.{first_key}
use Rattle.bk_index.proofs.FencedPages.{fenced_over, countable}
use Rattle.bk_index.proofs.HomePages.{read_page}
use Rattle.bk_index.proofs.Runs.{at_of_fewer}
use Rattle.bk_index.proofs.RunPages.{page_run, length_page, length_pages}
use Rattle.bk_index.proofs.pages.Pages.push_run.Goals as goal

pub push_run-requires : goal.push_run-requires
push_run-requires c = at_of_fewer c.args.place.at c.args.size c.args.count c.before_next-most.result c.before_next-most.ensures.bound c.requires.places

pub invariant_of-self-2 : goal.invariant_of-self-2
invariant_of-self-2 c =
    let pages = c.self.inside.list.items in
    let held = c.index_mut-page.result.now in
    let read = c.index_mut-page.ensures.value in
    let within : c.args.at < length pages = omega (arith, ap length c.self.view_is, c.requires.within) in
    let sized = c.self.invariant.sizes c.args.at held within in
    let same = ap length read in
    let long = length_page pages c.args.at within held read c.args.key.now c.args.place c.args.size c.in_ok-number.number c.push_run.new.self
    c.in_ok-number.ensures.pushed in
    let most = c.in_ok-number.ensures.room (omega (arith, sized.1, same)) in
    fenced_over c.self.inside.fences.items pages c.self.invariant c.args.at c.push_run.new.self within
    (c.in_ok-number.ensures.first ∙ ap first_key (read_page pages c.args.at within held read)) (omega (arith, long, sized.0, same), most)

pub returns-clause-pushed : goal.returns-clause-pushed
returns-clause-pushed c =
    let pages = c.self.inside.list.items in
    let within : c.args.at < length pages = omega (arith, ap length c.self.view_is, c.requires.within) in
    let homes = rw (← c.self.view_is) at c.before_next-most.ensures.homes in
    rw (← c.self.view_is)
    (page_run pages c.args.at within c.index_mut-page.result.now c.index_mut-page.ensures.value c.args.key.now c.args.place c.args.size
    c.in_ok-number.number c.push_run.new.self c.in_ok-number.ensures.pushed c.in_ok-number.ensures.behind
    (λ i inside. homes i (omega (arith, inside, c.in_ok-number.ensures.bound))))

pub returns-clause-len : goal.returns-clause-len
returns-clause-len c =
    let pages = c.self.inside.list.items in
    let within : c.args.at < length pages = omega (arith, ap length c.self.view_is, c.requires.within) in
    rw (← c.self.view_is)
    (length_pages pages c.args.at within c.index_mut-page.result.now c.index_mut-page.ensures.value c.args.key.now c.args.place c.args.size
    c.in_ok-number.number c.push_run.new.self c.in_ok-number.ensures.pushed)

pub returns-clause-few : goal.returns-clause-few
returns-clause-few c = countable _ _ (invariant_of-self-2 c)
