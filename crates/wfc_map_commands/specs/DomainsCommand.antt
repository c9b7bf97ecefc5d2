-- The command `domains`.
use Rattle.std.specs.Prelude.{◌≡◌}
use Rattle.wfc_lines.specs.Outcome.{no_domains_text}
use Rattle.wfc_map_commands.specs.DomainsAnswer.{domains_answer}
use Rattle.wfc_map_commands.specs.DomainsOrder.{domains_order}
use Rattle.wfc_map_commands.specs.DomainsTask.{DomainsTask, domains, domains_plan}
use Rattle.wfc_reply.specs.Command.{Command}
use Rattle.wfc_reply.specs.Reply.{Answered}

-- the answer of `domains`
abbrev pub DomainsAnswers : DomainsTask → Answered → Type 0
DomainsAnswers (domains P steps) answered = domains_answer P steps ≡ answered

-- the command `domains`: its answer is no where some cell has no value before the first step
abbrev pub domains_command : Command
domains_command = record {
  Task = DomainsTask;
  plan = λ kinds asked. domains_plan asked;
  order = λ kinds asked files. domains_order asked files;
  Answers = λ rules asked task answered. DomainsAnswers task answered;
  IsNo = λ rules asked files text. text ≡ no_domains_text;
  budget = λ asked. asked.budget;
}
