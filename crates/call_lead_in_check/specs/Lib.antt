pub mod LeadCheckLaws
