use Rattle.session_queries.proofs.asking.ask.Goals as goal

pub returns-in-Select : goal.returns-in-Select
returns-in-Select g c = record { written = rw c.in-Select.is c.ask_select.ensures.written; reads = rw c.in-Select.is c.ask_select.ensures.reads; files_only = c.ask_select.ensures.files_only }

pub returns-in-Join : goal.returns-in-Join
returns-in-Join g c = record { written = rw c.in-Join.is c.ask_join.ensures.written; reads = rw c.in-Join.is c.ask_join.ensures.reads; files_only = c.ask_join.ensures.files_only }
